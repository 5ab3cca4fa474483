-- What holds at the end of the program.
use Rattle.std.proofs.Common.{◌≡◌, ℕ, suc, ◌-◌, ◌<◌, ◌≤◌, Bool, false, not, ◌&&◌, List, Option, Some, None, is_some, is_none, length, slice_get, refl, sym, ap, ◌∙◌, inl, inr, ◌≢◌, get_or, take, length-take-le, arith}
use Rattle.std.proofs.lemmas.Bool.{cases_lt, ne_eqb}
use Rattle.std.proofs.lemmas.Option.{slice_get_past, slice_get-get_or}
use Rattle.std.specs.Bool.{then_some}
use Rattle.std.specs.Option.{option_or, option_map, option_and_then}
use Rattle.bytecode_format.specs.declared.instruction.Instruction.{Instruction}
use Rattle.bytecode_format.specs.declared.operation.Operation.{Operation}
use Rattle.bytecode_format.specs.Operations.{operation_of}
use Rattle.bytecode_format.specs.Code.{Code}
use Rattle.bytecode_verifier.specs.declared.error.Refusal.TheVariants.{Index, Form, End, Loop, Jump, NoPart, Stack}
use Rattle.bytecode_verifier.specs.declared.pass.Pass.{Pass}
use Rattle.bytecode_verifier.specs.Places.{holds_at, least_below, least_place}
use Rattle.bytecode_verifier.specs.Shape.{Entries, shape_at}
use Rattle.bytecode_verifier.specs.Rules.{is_halt, breaks_index, breaks_form, breaks_end, breaks_loop, breaks_jump, breaks_no_part, breaks_stack}
use Rattle.bytecode_verifier.specs.Acceptance.{refusal_of}
use Rattle.bytecode_verifier.specs.Pass.{HasPassed}
use Rattle.bytecode_verifier.proofs.Tests.{same_place}
use Rattle.bytecode_verifier.proofs.Least.{least_none, least_of_none, least_at_end, or_none_right}

-- after the last instruction no test holds
pub past_rule : (code : Code) (place : ℕ) (test : Instruction → Bool) → length code.instructions ≤ place → holds_at code place test ≡ false
past_rule code place test h = rw (slice_get_past code.instructions place h) refl

stays : (code : Code) (place : ℕ) (o : Option Entries) → (is_some o && is_none (option_and_then (λ entries. Some entries) o)) ≡ false
stays code place None = refl
stays code place (Some entries) = refl

-- nor does the shape fail there
pub past_stack : (code : Code) (place : ℕ) → length code.instructions ≤ place → breaks_stack code place ≡ false
past_stack code place h = rw (slice_get_past code.instructions place h) (stays code place (shape_at code place))

-- after the end, as a number above the count
pub beyond : (code : Code) (place : ℕ) (test : Instruction → Bool) → length code.instructions < place → holds_at code place test ≡ false
beyond code place test h = past_rule code place test (omega arith)

pub beyond_stack : (code : Code) (place : ℕ) → length code.instructions < place → breaks_stack code place ≡ false
beyond_stack code place h = past_stack code place (omega arith)

-- a rule that isn't broken up to the end, nor after it, is broken nowhere
pub anywhere : (test : ℕ → Bool) (code : Code) → least_place test code ≡ None → ((place : ℕ) → length code.instructions < place → test place ≡ false) → (place : ℕ) → test place ≡ false
anywhere test code none past place =
    elim (cases_lt place (suc (length code.instructions))) [
      | inl lt ↦ least_none test (suc (length code.instructions)) none place lt
      | inr le ↦ past place (omega arith)
    ]

chain : (i f e l j p s l2 j2 p2 s2 : Option ℕ) → i ≡ None → f ≡ None → e ≡ None → l ≡ l2 → j ≡ j2 → p ≡ p2 → s ≡ s2
    → option_or (option_map Index i) (option_or (option_map Form f) (option_or (option_map End e) (option_or (option_map Loop l) (option_or (option_map Jump j) (option_or (option_map NoPart p) (option_map Stack s))))))
    ≡ option_or (option_map Loop l2) (option_or (option_map Jump j2) (option_or (option_map NoPart p2) (option_map Stack s2)))
chain i f e l j p s l2 j2 p2 s2 hi hf he hl hj hp hs = rw (hi, hf, he, hl, hj, hp, hs) refl

-- what the pass has found at the end
module _ (code : Code) (pass : Pass) (passed : HasPassed code (length code.instructions) pass) where
  found : (test : ℕ → Bool) (place : Option ℕ) → test (length code.instructions) ≡ false → place ≡ least_below test (length code.instructions) → least_place test code ≡ place
  found test place past is = least_at_end test code past ∙ sym is

  past : (test : Instruction → Bool) → holds_at code (length code.instructions) test ≡ false
  past test = past_rule code (length code.instructions) test (omega arith)

  -- the refusal, where neither an index nor a form nor the end is refused
  pub refusal_found : pass.form ≡ None → pass.index ≡ None → least_place (breaks_end code) code ≡ None
      → refusal_of code ≡ option_or (option_map Loop pass.brackets) (option_or (option_map Jump pass.jump) (option_or (option_map NoPart pass.part) (option_map Stack pass.stack)))
  refusal_found form index end =
      chain _ _ _ _ _ _ _ pass.brackets pass.jump pass.part pass.stack
      (found (breaks_index code) pass.index (past _) passed.index ∙ index)
      (found (breaks_form code) pass.form (past _) passed.form ∙ form)
      end
      (found (breaks_loop code) pass.brackets (past _) passed.brackets)
      (found (breaks_jump code) pass.jump (past _) passed.jump)
      (found (breaks_no_part code) pass.part (past _) passed.part)
      (found (breaks_stack code) pass.stack (past_stack code (length code.instructions) (omega arith)) passed.stack)

-- the least number that passes a test which no number but one can pass
single : (test : ℕ → Bool) (last n : ℕ) → n ≡ suc last → ((p : ℕ) → p ≢ last → test p ≡ false) → least_below test (suc n) ≡ then_some (test last) last
single test last n e h =
    rw (e, least_of_none test last (λ p lt. h p (λ same. omega arith)), h (suc last) (λ same. omega arith)) (or_none_right _)

-- the end is missed at the last place, where there is one
pub end_last : (code : Code) (xs : List Instruction) (d : Instruction) (o : Option Operation) (halt : Bool) (missing : Option ℕ) → xs ≡ code.instructions → 1 ≤ length xs
    → o ≡ operation_of (get_or xs (length xs - 1) d).op → halt ≡ is_halt o → missing ≡ then_some (not halt) (length (take (length xs - 1) xs)) → missing ≡ least_place (breaks_end code) code
end_last code xs d o halt missing is some op ends e =
    let last : length (take (length xs - 1) xs) ≡ length xs - 1 = length-take-le (length xs - 1) xs (omega arith) in
    let here : slice_get xs (length xs - 1) ≡ Some (get_or xs (length xs - 1) d) = slice_get-get_or xs (length xs - 1) d (omega arith) in
    let at_last : breaks_end code (length xs - 1) ≡ not halt = rw (← is, here, same_place (length xs - 1), ends, op) refl in
    let elsewhere : (p : ℕ) → p ≢ length xs - 1 → breaks_end code p ≡ false = λ p other. rw (← is, ne_eqb p (length xs - 1) other) refl in
    let least : least_below (breaks_end code) (suc (length xs)) ≡ then_some (breaks_end code (length xs - 1)) (length xs - 1) = single (breaks_end code) (length xs - 1) (length xs) (omega arith) elsewhere in
    e ∙ ap (then_some (not halt)) last ∙ ap (λ b. then_some b (length xs - 1)) (sym at_last) ∙ sym least ∙ ap (λ ys. least_below (breaks_end code) (suc (length ys))) is
