-- The code of a script is accepted.
use Rattle.std.proofs.Common.{◌≡◌, ℕ, zero, suc, ◌+◌, ◌-◌, ◌<◌, ◌≤◌, Bool, true, false, not, ◌&&◌, ◌||◌, ◌==◌, nat_lt, nat_le, List, [], ◌∷◌, Option, Some, None, is_some, is_none, slice_get, get_or, length, refl, sym, ap, subst, ◌∙◌, inl, inr, arith}
use Rattle.std.proofs.lemmas.Bool.{cases_Bool, cases_lt, cases_eq, eq-eqb, ne_eqb, lt-ltb, le-ltb, lt-leb}
use Rattle.std.proofs.lemmas.List.{length-append, append-nil}
use Rattle.std.proofs.Math.Bool.{and-false}
use Rattle.std.proofs.lemmas.Option.{slice_get_within, slice_get-get_or}
use Rattle.octets.specs.Limits.{max_loops}
use Rattle.bytecode_format.specs.declared.instruction.Instruction.{Instruction}
use Rattle.bytecode_format.specs.declared.operation.Operation.{Operation}
use Rattle.bytecode_format.specs.declared.operation.Operation.TheVariants.{Halt, Each, Next, Break}
use Rattle.bytecode_format.specs.Operations.{operation_of}
use Rattle.bytecode_format.specs.Code.{Code}
use Rattle.bytecode_verifier.specs.Acceptance.{IsAccepted}
use Rattle.bytecode_verifier.specs.Loops.{open_loops, same_loops}
use Rattle.bytecode_verifier.specs.Nests.{first_of, open_at}
use Rattle.bytecode_verifier.proofs.Around.{same_loops_is, has_loop_is, length_reverse}
use Rattle.bytecode_verifier.proofs.Open.{inside, nexts, open_inside, open_loops_are}
use Rattle.bytecode_verifier.specs.Places.{holds_at}
use Rattle.bytecode_verifier.specs.Rules.{count_of, misses_index, misses_loop, is_halt, breaks_form, breaks_end, breaks_stack}
use Rattle.std.specs.Option.{option_and_then, option_map_or}
use Rattle.bytecode_verifier.specs.declared.row.Table.{Table}
use Rattle.bytecode_verifier.specs.declared.row.Table.TheVariants.{Variables, Numbers, Strings}
use Rattle.bytecode_verifier.specs.Rows.{row_of, row_in_version, row_named, is_jump, needs_part}
use Rattle.bytecode_verifier.specs.Shape.{Entries, is_empty, is_target, shape_at}
use Rattle.bytecode_verifier.proofs.Ends.{past_stack}
use Rattle.sieve_check.specs.Bounded.{IsBounded}
use Rattle.sieve_check.specs.Typed.{CommandForms}
use Rattle.sieve_compiler.specs.Tables.{Tables, tables_of}
use Rattle.sieve_compiler.specs.Lengths.{commands_length}
use Rattle.sieve_compiler.specs.Coding.{plain, commands_code, code_of, written_version}
use Rattle.sieve_compiler.proofs.Standing.{Stands, stands_right, stands_first}
use Rattle.sieve_compiler.proofs.CodeLengths.{commands_code_length}
use Rattle.sieve_compiler.proofs.Known.{tables_have}
use Rattle.sieve_compiler.proofs.Sound.{row_written, standing, IsInTable, IsKnown, IsInside, KeepsLoops, IsSound, AreSound, sound_both}
use Rattle.sieve_compiler.proofs.PiecesSound.{halt_sound, commands_end, commands_sound}

sound_at : (all : List Instruction) (tables : Tables) (last place : ℕ) (piece : List Instruction) (k : ℕ) (i : Instruction) → AreSound all tables last place piece → slice_get piece k ≡ Some i → IsSound all tables last (place + k) i
sound_at all tables last place [] k i h e = absurd (cc)
sound_at all tables last place (j ∷ piece) zero i h e =
    let same : j ≡ i = cc in
    let here : place ≡ place + 0 = omega arith in
    subst (λ p. IsSound all tables last p i) here (subst (λ x. IsSound all tables last place x) same h.0)
sound_at all tables last place (j ∷ piece) (suc k) i h e =
    let here : suc place + k ≡ place + suc k = omega arith in
    subst (λ p. IsSound all tables last p i) here (sound_at all tables last (suc place) piece k i h.1 e)

index_kept : (code : Code) (tables : Tables) (o : Option Operation) (i : Instruction) → (code.numbers ≡ tables.numbers) × (code.strings ≡ tables.strings) × (code.variables ≡ length tables.variables) → IsKnown tables o i → misses_index code (option_and_then (row_in_version written_version) o) i ≡ false
index_kept code tables None i same h = refl
index_kept code tables (Some o) i same h = ap (λ row. misses_index code row i) (row_written o) ∙ in_table (row_of o).index h
  where
    in_table : (index : Option Table) → IsInTable tables index i.c → option_map_or (λ table. nat_le (count_of code table) i.c) index false ≡ false
    in_table None h = refl
    in_table (Some Variables) h = let lt = slice_get_within tables.variables i.c h.0 h.1 in rw same.2 (lt-leb (length tables.variables) i.c lt)
    in_table (Some Numbers) h = let lt = slice_get_within tables.numbers i.c h.0 h.1 in rw same.0 (lt-leb (length tables.numbers) i.c lt)
    in_table (Some Strings) h = let lt = slice_get_within tables.strings i.c h.0 h.1 in rw same.1 (lt-leb (length tables.strings) i.c lt)

none_passes : (o : Option Instruction) (test : Instruction → Bool) → ((i : Instruction) → o ≡ Some i → test i ≡ false) → option_map_or test o false ≡ false
none_passes None test h = refl
none_passes (Some i) test h = h i refl

-- a rule that no instruction breaks
nowhere : (code : Code) (place : ℕ) (test : Instruction → Bool) → ((i : Instruction) → slice_get code.instructions place ≡ Some i → test i ≡ false) → holds_at code place test ≡ false
nowhere code place test h = none_passes (slice_get code.instructions place) test h

-- how many loops are open
depth : (code : Code) (place : ℕ) → length (open_loops code place) ≡ length (inside code.instructions place)
depth code place = ap length (open_loops_are code place) ∙ length_reverse (inside code.instructions place)

-- where the same are
same_open : (code : Code) (p q : ℕ) → inside code.instructions q ≡ inside code.instructions p → same_loops code p q ≡ true
same_open code p q same =
    same_loops_is code p q ∙ eq-eqb (first_of (open_at code.instructions p)) (first_of (open_at code.instructions q)) (ap first_of (open_inside code.instructions p ∙ ap nexts (sym same) ∙ sym (open_inside code.instructions q)))

loops_kept : (code : Code) (place : ℕ) (o : Option Operation) (i : Instruction) → KeepsLoops code.instructions place o i → misses_loop code place o i ≡ false
loops_kept code place (Some Each) i h = rw (has_loop_is code place i.c, h.0, depth code place, lt-leb max_loops (length (inside code.instructions place)) h.1) refl
loops_kept code place (Some Next) i h = rw (has_loop_is code i.c place, h) refl
loops_kept code place (Some Break) i h = rw (depth code place) (le-ltb (length (inside code.instructions place)) i.a h)
loops_kept code place _ i h = refl

some_open : (code : Code) (place : ℕ) → 0 < length (inside code.instructions place) → (length (open_loops code place) == 0) ≡ false
some_open code place h = ne_eqb (length (open_loops code place)) 0 (λ e. omega (arith, h, depth code place, e))

-- an operation on the current part stands in a loop
part_kept : (code : Code) (place : ℕ) (o : Option Operation) (i : Instruction) → KeepsLoops code.instructions place o i → (needs_part (option_and_then (row_in_version written_version) o) && (length (open_loops code place) == 0)) ≡ false
part_kept code place None i h = refl
part_kept code place (Some Each) i h = refl
part_kept code place (Some Next) i h = refl
part_kept code place (Some Break) i h = refl
part_kept code place (Some o) i h = ap (λ row. needs_part row && (length (open_loops code place) == 0)) (row_written o) ∙ around (row_of o).needs_part h
  where
    around : (needs : Bool) → IsInside needs (length (inside code.instructions place)) → (needs && (length (open_loops code place) == 0)) ≡ false
    around true deep = some_open code place deep
    around false deep = refl

goes_on : (before after : Option Entries) (entries : Entries) → after ≡ Some entries → (is_some before && is_none after) ≡ false
goes_on before after entries e = rw e (and-false (is_some before))

-- no jump leads to where entries stand
no_target : (all : List Instruction) (tables : Tables) (last from : ℕ) (piece : List Instruction) (place : ℕ) → AreSound all tables last from piece → is_empty (standing tables all place) ≡ false → is_target written_version piece place ≡ false
no_target all tables last from [] place h some = refl
no_target all tables last from (i ∷ piece) place h some =
    let rest = no_target all tables last (suc from) piece place h.1 some in
    elim (cases_Bool (is_jump (row_named written_version i.op))) [
      | inl jump ↦
          let elsewhere : (i.c ≡ place → ⊥) = (λ (same : i.c ≡ place). let both : true ≡ false = ap is_empty (sym (h.0.jump jump).between) ∙ ap (λ p. is_empty (standing tables all p)) same ∙ some in absurd (cc)) in
          rw (jump, ne_eqb i.c place elsewhere) rest
      | inr none ↦ rw none rest
    ]

module _ (script : CommandForms) (bounded : IsBounded script) where
  abbrev code : Code
  code = code_of script

  abbrev all : List Instruction
  all = code.instructions

  abbrev tables : Tables
  tables = tables_of script

  abbrev last : ℕ
  last = commands_length script

  abbrev body : List Instruction
  body = commands_code tables 0 script

  body_stands : Stands all 0 body
  body_stands = (plain Halt ∷ [], refl)

  halt_stands : Stands all (0 + last) (plain Halt ∷ [])
  halt_stands = stands_right all 0 last body (plain Halt ∷ []) (commands_code_length tables script 0) ([], sym (append-nil all))

  pub halt_at : slice_get all last ≡ Some (plain Halt)
  halt_at = let same : 0 + last ≡ last = omega arith in subst (λ p. slice_get all p ≡ Some (plain Halt)) same (stands_first all (0 + last) (plain Halt) [] halt_stands)

  pub code_length : length all ≡ suc last
  code_length = let sum = length-append body (plain Halt ∷ []) in let own = commands_code_length tables script 0 in omega (arith, sum, own)

  all_sound : AreSound all tables last 0 all
  all_sound =
      let le : 0 + last ≤ last = omega arith in
      let halt = halt_sound all tables last (0 + last) (commands_end all tables last script 0 body_stands refl) in
      sound_both all tables last body (plain Halt ∷ []) 0 last (commands_code_length tables script 0) (commands_sound all tables last script 0 0 body_stands (tables_have script) bounded.commands refl le (omega arith) bounded.loops refl) (halt, tt)

  pub sound : (place : ℕ) (i : Instruction) → slice_get all place ≡ Some i → IsSound all tables last place i
  sound place i e = let same : 0 + place ≡ place = omega arith in subst (λ p. IsSound all tables last p i) same (sound_at all tables last 0 all place i all_sound e)

  shape_known : (place : ℕ) → place ≤ length all → shape_at code place ≡ Some (standing tables all place)
  shape_known zero le = refl
  shape_known (suc place) le =
      let before = shape_known place (omega (arith, le)) in
      let here = slice_get-get_or all place (plain Halt) (omega (arith, le)) in
      let i = get_or all place (plain Halt) in
      let s = sound place i here in
      let entries = standing tables all place in
      let free : (is_target written_version all place && not (is_empty entries)) ≡ false =
      elim (cases_Bool (is_empty entries)) [
        | inl none ↦ rw none (and-false (is_target written_version all place))
        | inr some ↦ rw (no_target all tables last 0 all place all_sound some) refl
      ] in
      rw (before, here, free) (s.stack code refl)

  formed : (place : ℕ) → breaks_form code place ≡ false
  formed place = nowhere code place _ (λ i e. ap not (sound place i e).form)

  ended : (place : ℕ) → breaks_end code place ≡ false
  ended place =
      elim (cases_eq place (length all - 1)) [
        | inl same ↦
            let there : place ≡ last = omega (arith, same, code_length) in
            let halts : holds_at code place (λ i. is_halt (operation_of i.op)) ≡ true = rw (there, halt_at) refl in
            rw halts (and-false (place == length all - 1))
        | inr other ↦ rw (ne_eqb place (length all - 1) other) refl
      ]

  aimed : (place : ℕ) (i : Instruction) → slice_get all place ≡ Some i → (is_jump (row_named written_version i.op) && (nat_le i.c place || nat_le (length all) i.c || not (same_loops code place i.c))) ≡ false
  aimed place i e =
      elim (cases_Bool (is_jump (row_named written_version i.op))) [
        | inl jump ↦
            let a = (sound place i e).jump jump in
            let inner : i.c < length all = omega (arith, a.within, code_length) in
            rw (jump, lt-leb i.c place a.forward, lt-leb (length all) i.c inner, same_open code place i.c a.same) refl
        | inr none ↦ rw none refl
      ]

  -- a jump is one that the machine makes
  pub jump_kept : (place : ℕ) (i : Instruction) → slice_get all place ≡ Some i → is_jump (row_named written_version i.op) ≡ true → (nat_lt place i.c && same_loops code place i.c) ≡ true
  jump_kept place i e jump =
      let a = (sound place i e).jump jump in
      rw (lt-ltb place i.c a.forward, same_open code place i.c a.same) refl

  stacked : (place : ℕ) → breaks_stack code place ≡ false
  stacked place =
      elim (cases_lt place (length all)) [
        | inl lt ↦ goes_on (shape_at code place) (shape_at code (suc place)) _ (shape_known (suc place) (omega (arith, lt)))
        | inr le ↦ past_stack code place le
      ]

  pub code_accepted : IsAccepted code
  code_accepted = record {
    index = λ place. nowhere code place _ (λ i e. index_kept code tables (operation_of i.op) i (refl, refl, refl) (sound place i e).index);
    form = formed;
    end = ended;
    loop = λ place. nowhere code place _ (λ i e. loops_kept code place (operation_of i.op) i (sound place i e).loops);
    jump = λ place. nowhere code place _ (aimed place);
    no_part = λ place. nowhere code place _ (λ i e. part_kept code place (operation_of i.op) i (sound place i e).loops);
    stack = stacked;
  }
