-- How the pass goes on by one instruction.
use Rattle.std.proofs.Common.{◌≡◌, ℕ, zero, suc, ◌+◌, ◌*◌, ◌≤◌, ◌⊎◌, Bool, true, false, if◌then◌else◌, not, ◌&&◌, ◌||◌, ◌==◌, nat_le, inl, inr, List, [], ◌∷◌, Option, Some, None, is_some, is_none, length, slice_get, slice_set, slice_index, refl, sym, ap, subst, ◌∙◌, lit≤, arith, add-one, add-zero}
use Rattle.std.specs.Bool.{then_some}
use Rattle.std.specs.Option.{option_or, option_and_then, unwrap_or}
use Rattle.std.proofs.lemmas.Bool.{ne_eqb}
use Rattle.octets.specs.Limits.{max_loops}
use Rattle.bytecode_format.specs.declared.instruction.Instruction.{Instruction}
use Rattle.bytecode_format.specs.declared.operation.Operation.{Operation}
use Rattle.bytecode_format.specs.Operations.{operation_of}
use Rattle.bytecode_format.specs.Code.{Code}
use Rattle.bytecode_format.specs.Spelling.{IsProgram}
use Rattle.bytecode_cost.specs.Sums.{Sums, with_cap}
use Rattle.bytecode_verifier.specs.declared.pass.Pass.{Pass}
use Rattle.bytecode_verifier.specs.Places.{least_below}
use Rattle.bytecode_verifier.specs.Loops.{open_loops, same_loops}
use Rattle.bytecode_verifier.specs.declared.row.Row.{Row}
use Rattle.bytecode_verifier.specs.Rows.{is_well_formed, is_jump, needs_part}
use Rattle.bytecode_verifier.specs.Shape.{Entries, is_target, shape_after, shape_at}
use Rattle.bytecode_verifier.specs.Rules.{row_in, misses_index, misses_loop, breaks_index, breaks_form, breaks_loop, breaks_jump, breaks_no_part, breaks_stack}
use Rattle.bytecode_verifier.specs.declared.cap.Cap.{Cap}
use Rattle.bytecode_verifier.specs.Budget.{one_charge, cap_of, cap_at}
use Rattle.bytecode_verifier.specs.Pass.{IsSmall, Passes, max_cap, unless_failed, sum_below_place, sums_below, budget_below, with_charge, HasPassed}
use Rattle.bytecode_verifier.proofs.Open.{lt-not-le}
use Rattle.bytecode_verifier.proofs.Short.{length_short, shape_small}
use Rattle.bytecode_verifier.proofs.Budgets.{Fits, cap_fits}
use Rattle.bytecode_verifier.proofs.Least.{least_more}

-- the shape goes on from a place to the next
pub shape_more : (code : Code) (place : ℕ) (i : Instruction) (old new : Option Entries) → slice_get code.instructions place ≡ Some i → shape_at code place ≡ old
    → new ≡ option_and_then (shape_after code (is_target code.version code.instructions place) (operation_of i.op) i) old → shape_at code (place + 1) ≡ new
shape_more code place i old new here before e = rw (add-one, here, before) (sym e)

is_some_unless : (failed : Option ℕ) (entries : Entries) → is_some (unless_failed failed entries) ≡ is_none failed
is_some_unless None entries = refl
is_some_unless (Some p) entries = refl

is_none_unless : (failed : Option ℕ) (entries : Entries) → is_none (unless_failed failed entries) ≡ is_some failed
is_none_unless None entries = refl
is_none_unless (Some p) entries = refl

-- the first place where the shape fails
pub stack_more : (code : Code) (place : ℕ) (old new : Option ℕ) (before after : Entries) → old ≡ least_below (breaks_stack code) place
    → shape_at code place ≡ unless_failed old before → shape_at code (place + 1) ≡ unless_failed new after
    → new ≡ option_or old (then_some (is_none old && is_some new) place) → new ≡ least_below (breaks_stack code) (place + 1)
stack_more code place old new before after e b a n =
    let reached : is_some (shape_at code place) ≡ is_none old = ap is_some b ∙ is_some_unless old before in
    let left : is_none (shape_at code (suc place)) ≡ is_some new = ap is_none (rw add-one at a) ∙ is_none_unless new after in
    least_more (breaks_stack code) place old new (is_none old && is_some new) e (sym (rw (reached, left) refl)) n

-- what the shape is after an instruction, and where it has failed
after_passed : (failed : Option ℕ) (cap : Option Cap) (place : ℕ) (before now : Entries) (here : Cap) (over : Entries → Option Entries)
    → Passes cap now here (option_and_then over (unless_failed failed before)) → unless_failed (option_or failed (then_some (is_none cap) place)) now ≡ option_and_then over (unless_failed failed before)
after_passed None None place before now here over p = sym p
after_passed None (Some c) place before now here over p = sym p.1
after_passed (Some q) None place before now here over p = refl
after_passed (Some q) (Some c) place before now here over p = absurd (let f = p.1 in cc)

failed_once : (failed : Option ℕ) (cap : Option Cap) (place : ℕ)
    → option_or failed (then_some (is_none cap) place) ≡ option_or failed (then_some (is_none failed && is_some (option_or failed (then_some (is_none cap) place))) place)
failed_once None None place = refl
failed_once None (Some c) place = refl
failed_once (Some q) cap place = refl

-- where the shape goes on, it is with the cap of the instruction
pub cap_found_at : (failed : Option ℕ) (cap : Option Cap) (place : ℕ) (now : Entries) (here : Cap) (after : Option Entries) → Passes cap now here after → option_or failed (then_some (is_none cap) place) ≡ None → (failed ≡ None) × (unwrap_or cap one_charge ≡ here)
cap_found_at None None place now here after p e = absurd cc
cap_found_at None (Some c) place now here after p e = (refl, p.0)
cap_found_at (Some q) cap place now here after p e = absurd cc

cap_here : (code : Code) (place : ℕ) (i : Instruction) (entries : Entries) → slice_get code.instructions place ≡ Some i → shape_at code place ≡ Some entries → cap_at code place ≡ cap_of (operation_of i.op) i entries
cap_here code place i entries here shape = rw (here, shape) refl

-- the four sums after one more number inside so many loops
pub levels_more : (depth a b c d n : ℕ)
    → (a + (if depth == 0 then n else 0)) ∷ (b + (if depth == 1 then n else 0)) ∷ (c + (if depth == 2 then n else 0)) ∷ (d + (if depth == 3 then n else 0)) ∷ []
    ≡ (if nat_le depth max_loops then slice_set (a ∷ b ∷ c ∷ d ∷ []) depth (slice_index (a ∷ b ∷ c ∷ d ∷ []) depth + n) else a ∷ b ∷ c ∷ d ∷ [])
levels_more zero a b c d n = simp add-zero refl
levels_more (suc zero) a b c d n = simp add-zero refl
levels_more (suc (suc zero)) a b c d n = simp add-zero refl
levels_more (suc (suc (suc zero))) a b c d n = simp add-zero refl
levels_more (suc (suc (suc (suc depth)))) a b c d n =
    let many : nat_le (suc (suc (suc (suc depth)))) max_loops ≡ false = lt-not-le max_loops (suc (suc (suc (suc depth)))) (omega arith) in
    rw (many, ne_eqb (suc (suc (suc (suc depth)))) 0 (λ e. omega arith), ne_eqb (suc (suc (suc (suc depth)))) 1 (λ e. omega arith), ne_eqb (suc (suc (suc (suc depth)))) 2 (λ e. omega arith), ne_eqb (suc (suc (suc (suc depth)))) 3 (λ e. omega arith))
    (simp add-zero refl)

sums_more : (part : Cap → ℕ) (code : Code) (place depth n : ℕ) → depth ≡ length (open_loops code place) → part (cap_at code place) ≡ n
    → sums_below part code (place + 1) ≡ (if nat_le depth max_loops then slice_set (sums_below part code place) depth (slice_index (sums_below part code place) depth + n) else sums_below part code place)
sums_more part code place depth n deep caps = rw (add-one, caps, ← deep) (levels_more depth (s 0) (s 1) (s 2) (s 3) n)
  where
    s : ℕ → ℕ
    s k = sum_below_place part code place k

pub budget_more : (code : Code) (place depth : ℕ) (cap : Cap) (old : Sums) → depth ≡ length (open_loops code place) → cap_at code place ≡ cap → old ≡ budget_below code place → with_charge depth cap old ≡ budget_below code (place + 1)
budget_more code place depth cap old deep caps e =
    rw (e, sums_more (λ c. c.fixed) code place depth cap.fixed deep (ap (λ c. c.fixed) caps), sums_more (λ c. c.scaled) code place depth cap.scaled deep (ap (λ c. c.scaled) caps)) (go (nat_le depth max_loops))
  where
    go : (b : Bool) → (if b then with_cap (budget_below code place) depth cap.fixed cap.scaled else budget_below code place)
        ≡ (let sums : Sums = record {
          version = code.version;
          fixed = if b then slice_set (sums_below (λ c. c.fixed) code place) depth (slice_index (sums_below (λ c. c.fixed) code place) depth + cap.fixed) else sums_below (λ c. c.fixed) code place;
          scaled = if b then slice_set (sums_below (λ c. c.scaled) code place) depth (slice_index (sums_below (λ c. c.scaled) code place) depth + cap.scaled) else sums_below (λ c. c.scaled) code place;
        } in sums)
    go true = refl
    go false = refl

-- each sum after one more cap
index_set : (sums : List ℕ) (j k v : ℕ) → (slice_index (slice_set sums j v) k ≡ slice_index sums k) ⊎ ((j ≡ k) × (slice_index (slice_set sums j v) k ≡ v))
index_set [] j k v = inl refl
index_set (x ∷ xs) zero k v = go k
  where
    go : (k : ℕ) → (slice_index (v ∷ xs) k ≡ slice_index (x ∷ xs) k) ⊎ ((zero ≡ k) × (slice_index (v ∷ xs) k ≡ v))
    go zero = inr (refl, refl)
    go (suc k) = inl refl
index_set (x ∷ xs) (suc j) k v = go k (index_set xs j)
  where
    go : (k : ℕ) → ((k v : ℕ) → (slice_index (slice_set xs j v) k ≡ slice_index xs k) ⊎ ((j ≡ k) × (slice_index (slice_set xs j v) k ≡ v)))
        → (slice_index (x ∷ slice_set xs j v) k ≡ slice_index (x ∷ xs) k) ⊎ ((suc j ≡ k) × (slice_index (x ∷ slice_set xs j v) k ≡ v))
    go zero ih = inl refl
    go (suc k) ih = elim (ih k v) [
      | inl same ↦ inl same
      | inr new ↦ inr (ap suc new.0, new.1)
    ]

sum_grows : (sums : List ℕ) (j k a low high : ℕ) → slice_index sums k ≤ low → slice_index sums j + a ≤ high → low ≤ high → slice_index (slice_set sums j (slice_index sums j + a)) k ≤ high
sum_grows sums j k a low high before more le = elim (index_set sums j k (slice_index sums j + a)) [
  | inl same ↦ omega (arith, same, before, le)
  | inr new ↦ omega (arith, new.1, more)
]

-- a number that is added to each of them is small enough
pub fixed_grows : (sums new : Sums) (depth place k : ℕ) (cap : Cap) → new ≡ with_charge depth cap sums → ((j : ℕ) → slice_index sums.fixed j ≤ place * max_cap) → cap.fixed ≤ max_cap → slice_index new.fixed k ≤ (place + 1) * max_cap
fixed_grows sums new depth place k cap is before fits = rw is (go (nat_le depth max_loops))
  where
    go : (b : Bool) → slice_index (if b then with_cap sums depth cap.fixed cap.scaled else sums).fixed k ≤ (place + 1) * max_cap
    go true = sum_grows sums.fixed depth k cap.fixed (place * max_cap) ((place + 1) * max_cap) (before k) (omega (arith, before depth, fits)) (omega arith)
    go false = omega (arith, before k)

pub scaled_grows : (sums new : Sums) (depth place k : ℕ) (cap : Cap) → new ≡ with_charge depth cap sums → ((j : ℕ) → slice_index sums.scaled j ≤ place * max_cap) → cap.scaled ≤ max_cap → slice_index new.scaled k ≤ (place + 1) * max_cap
scaled_grows sums new depth place k cap is before fits = rw is (go (nat_le depth max_loops))
  where
    go : (b : Bool) → slice_index (if b then with_cap sums depth cap.fixed cap.scaled else sums).scaled k ≤ (place + 1) * max_cap
    go true = sum_grows sums.scaled depth k cap.scaled (place * max_cap) ((place + 1) * max_cap) (before k) (omega (arith, before depth, fits)) (omega arith)
    go false = omega (arith, before k)

-- the rules at the place of an instruction
pub index_here : (code : Code) (place : ℕ) (i : Instruction) (o : Option Row) (b : Bool) → slice_get code.instructions place ≡ Some i → o ≡ row_in code i → b ≡ misses_index code o i → b ≡ breaks_index code place
index_here code place i o b here op e = rw here (e ∙ ap (λ p. misses_index code p i) op)

pub form_here : (code : Code) (place : ℕ) (i : Instruction) (o : Option Row) (b : Bool) → slice_get code.instructions place ≡ Some i → o ≡ row_in code i → b ≡ is_well_formed o i → not b ≡ breaks_form code place
form_here code place i o b here op e = rw here (ap not e ∙ ap (λ p. not (is_well_formed p i)) op)

pub loop_here : (code : Code) (place : ℕ) (i : Instruction) (o : Option Operation) (b : Bool) → slice_get code.instructions place ≡ Some i → o ≡ operation_of i.op → b ≡ misses_loop code place o i → b ≡ breaks_loop code place
loop_here code place i o b here op e = rw here (e ∙ ap (λ p. misses_loop code place p i) op)

pub jump_here : (code : Code) (place : ℕ) (i : Instruction) (o : Option Row) (b : Bool) → slice_get code.instructions place ≡ Some i → o ≡ row_in code i
    → b ≡ (is_jump o && (nat_le i.c place || nat_le (length code.instructions) i.c || not (same_loops code place i.c))) → b ≡ breaks_jump code place
jump_here code place i o b here op e = rw here (e ∙ ap (λ p. is_jump p && (nat_le i.c place || nat_le (length code.instructions) i.c || not (same_loops code place i.c))) op)

pub part_here : (code : Code) (place : ℕ) (i : Instruction) (o : Option Row) (b : Bool) → slice_get code.instructions place ≡ Some i → o ≡ row_in code i
    → b ≡ (needs_part o && (length (open_loops code place) == 0)) → b ≡ breaks_no_part code place
part_here code place i o b here op e = rw here (e ∙ ap (λ p. needs_part p && (length (open_loops code place) == 0)) op)

-- whether there is none, as std's test says it
pub none_from : (cap : Option Cap) (b : Bool) → is_some cap ≡ not b → b ≡ is_none cap
none_from None true e = refl
none_from None false e = absurd cc
none_from (Some c) true e = absurd cc
none_from (Some c) false e = refl

-- a cap that was found fits, and so does that of a failing instruction
pub found_fits : (cap : Option Cap) (now : Entries) (here : Cap) (after : Option Entries) → Passes cap now here after → ((entries : Entries) → after ≡ Some entries → Fits here) → Fits (unwrap_or cap one_charge)
found_fits None now here after p h = (lit≤ tt, lit≤ tt)
found_fits (Some c) now here after p h = subst Fits (sym p.0) (h now p.1)

-- what the pass knows of the shape at an instruction
module _ (code : Code) (place : ℕ) (i : Instruction) (pass : Pass) (fits : IsProgram code) (here : slice_get code.instructions place ≡ Some i) (before : HasPassed code place pass) where
  -- the entries are few, and the texts short
  pub small_here : pass.stack ≡ None → IsSmall pass.shape
  small_here whole = shape_small code fits place pass.shape (before.shape ∙ ap (λ s. unless_failed s pass.shape) whole)

  -- the cap that was found fits
  pub cap_fits_here : (targeted : Bool) (operation : Option Operation) (cap : Option Cap) (added : Cap) (now : Entries) → operation ≡ operation_of i.op
      → Passes cap now (cap_of operation i pass.shape) (option_and_then (shape_after code targeted operation i) (unless_failed pass.stack pass.shape)) → added ≡ unwrap_or cap one_charge → Fits added
  cap_fits_here targeted operation cap added now op p same = subst Fits (sym same) (found_fits cap now _ _ p (λ entries e. go pass.stack refl e))
    where
      go : (s : Option ℕ) → pass.stack ≡ s → {entries : Entries} → option_and_then (shape_after code targeted operation i) (unless_failed s pass.shape) ≡ Some entries → Fits (cap_of operation i pass.shape)
      go None e h = rw op (cap_fits (operation_of i.op) i pass.shape (length_short code.instructions place i fits.each_instruction here) (shape_small code fits place pass.shape (before.shape ∙ ap (λ s. unless_failed s pass.shape) e)))
      go (Some q) e h = absurd cc

-- the pass goes on by the instruction at a place
pub passed_more : (code : Code) (place : ℕ) (i : Instruction) (operation : Option Operation) (row : Option Row) (old new : Pass) (cap : Option Cap) (added : Cap) (targeted misses formed astray leaves apart : Bool) (depth : ℕ)
    → slice_get code.instructions place ≡ Some i → HasPassed code place old → targeted ≡ is_target code.version code.instructions place → operation ≡ operation_of i.op → row ≡ row_in code i
    → misses ≡ misses_index code row i → new.index ≡ option_or old.index (then_some misses place)
    → formed ≡ is_well_formed row i → new.form ≡ option_or old.form (then_some (not formed) place)
    → astray ≡ misses_loop code place operation i → new.brackets ≡ option_or old.brackets (then_some astray place)
    → leaves ≡ (is_jump row && (nat_le i.c place || nat_le (length code.instructions) i.c || not (same_loops code place i.c))) → new.jump ≡ option_or old.jump (then_some leaves place)
    → apart ≡ (needs_part row && (length (open_loops code place) == 0)) → new.part ≡ option_or old.part (then_some apart place)
    → new.stack ≡ option_or old.stack (then_some (is_none cap) place)
    → Passes cap new.shape (cap_of operation i old.shape) (option_and_then (shape_after code targeted operation i) (unless_failed old.stack old.shape))
    → added ≡ unwrap_or cap one_charge → Fits added → depth ≡ length (open_loops code place) → new.budget ≡ with_charge depth added old.budget
    → HasPassed code (place + 1) new
passed_more code place i operation row old new cap added targeted misses formed astray leaves apart depth here before target op named missed index form_is form astray_is brackets leaves_is jump apart_is part stack passes adds fits deep budget =
    let shape : unless_failed new.stack new.shape ≡ option_and_then (shape_after code targeted operation i) (unless_failed old.stack old.shape) =
    ap (λ s. unless_failed s new.shape) stack ∙ after_passed old.stack cap place old.shape new.shape _ _ passes in
    let goes : shape_at code (place + 1) ≡ unless_failed new.stack new.shape =
    shape_more code place i (unless_failed old.stack old.shape) (unless_failed new.stack new.shape) here before.shape
    (shape ∙ ap (λ t. option_and_then (shape_after code t operation i) (unless_failed old.stack old.shape)) target
    ∙ ap (λ o. option_and_then (shape_after code (is_target code.version code.instructions place) o i) (unless_failed old.stack old.shape)) op) in
    let once : new.stack ≡ option_or old.stack (then_some (is_none old.stack && is_some new.stack) place) =
    stack ∙ failed_once old.stack cap place ∙ ap (λ s. option_or old.stack (then_some (is_none old.stack && is_some s) place)) (sym stack) in
    record {
      index = least_more (breaks_index code) place old.index new.index misses before.index (index_here code place i row misses here named missed) index;
      form = least_more (breaks_form code) place old.form new.form (not formed) before.form (form_here code place i row formed here named form_is) form;
      brackets = least_more (breaks_loop code) place old.brackets new.brackets astray before.brackets (loop_here code place i operation astray here op astray_is) brackets;
      jump = least_more (breaks_jump code) place old.jump new.jump leaves before.jump (jump_here code place i row leaves here named leaves_is) jump;
      part = least_more (breaks_no_part code) place old.part new.part apart before.part (part_here code place i row apart here named apart_is) part;
      stack = stack_more code place old.stack new.stack old.shape new.shape before.stack before.shape goes once;
      shape = goes;
      budget = λ whole.
          let found = cap_found_at old.stack cap place new.shape _ _ passes (sym stack ∙ whole) in
          let caps = cap_here code place i old.shape here (before.shape ∙ ap (λ s. unless_failed s old.shape) found.0) ∙ ap (λ o. cap_of o i old.shape) (sym op) ∙ sym found.1 ∙ sym adds in
          budget ∙ budget_more code place depth added old.budget deep caps (before.budget found.0);
      fixed = λ k. fixed_grows old.budget new.budget depth place k added budget before.fixed fits.0;
      scaled = λ k. scaled_grows old.budget new.budget depth place k added budget before.scaled fits.1;
    }
