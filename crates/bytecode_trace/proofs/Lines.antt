-- The line of a step, from what is known before it and after it.
use Rattle.std.proofs.Common.{◌≡◌, ℕ, ◌-◌, List, [], ◌∷◌, ◌++◌, codes, slice_get, Option, Some, None, option_map, refl, sym, ap, ◌∙◌, append_assoc, append-nil}
use Rattle.std.specs.Option.{option_map_or}
use Rattle.std.specs.Fmt.{decimal}
use Rattle.bytecode_format.specs.Code.{Code}
use Rattle.bytecode_format.specs.Operations.{operation_of}
use Rattle.bytecode_format.specs.declared.instruction.Instruction.{Instruction}
use Rattle.bytecode_listing.specs.Listing.{instruction_text}
use Rattle.sieve_vm.specs.State.{State, current_part}
use Rattle.bytecode_trace.specs.Printed.{column, instruction_line, part_text, told_of, told_value, value_text}
use Rattle.bytecode_trace.specs.Private.{line_between, told_after, told_before}
use Rattle.bytecode_trace.specs.Steps.{TakenStep}
use Rattle.bytecode_trace.specs.declared.telling.Told.{Told}
use Rattle.bytecode_trace.specs.declared.telling.Told.TheVariants.{Taken}

-- what is told is known before the step or after it
told_in_two : (told : Told) (i : Instruction) (before after : State) → told_before told before ++ told_after told i.c after ≡ column (option_map value_text (told_value told i (record { before = before; after = after })))
told_in_two Taken i before after = append-nil _
told_in_two _ i before after = refl

-- what the charge and the sum are told as
abbrev pub charge_text : ℕ → ℕ → List ℕ
charge_text charge sum = codes " | " ++ decimal charge ++ codes " " ++ decimal sum

-- the line of an instruction up to the value that is told
abbrev pub beginning : ℕ → Instruction → ℕ → ℕ → Option ℕ → List ℕ
beginning place i charged sum part = instruction_text place i ++ charge_text (sum - charged) sum ++ column (option_map part_text part)

regrouped : (x a b c d : List ℕ) → x ++ (a ++ b ++ c ++ d) ≡ x ++ a ++ b ++ c ++ d
regrouped x a b c d =
    sym (append_assoc x (a ++ b ++ c) d) ∙ ap (λ xs. xs ++ d) (sym (append_assoc x (a ++ b) c) ∙ ap (λ xs. xs ++ c) (sym (append_assoc x a b)))

-- the pieces of a line, where the states before the step and after it are known
line_text : (code : Code) (before after : State) (told : Told) (i : Instruction) (place charged sum : ℕ) (part : Option ℕ) (taken : List ℕ) → told ≡ told_of (operation_of i.op) → slice_get code.instructions before.place ≡ Some i → place ≡ before.place → charged ≡ before.charge → sum ≡ after.charge → part ≡ current_part after.frames
    → taken ≡ told_before told before → beginning place i charged sum part ++ taken ++ told_after told i.c after ++ 10 ∷ [] ≡ line_between code (Some before) (Some after)
line_text code before after told i place charged sum part taken told_is here place_is charged_is sum_is part_is taken_is =
    let step : TakenStep = record { before = before; after = after } in
    let left = told_after told i.c after in
    let value = column (option_map value_text (told_value (told_of (operation_of i.op)) i step)) in
    let both : taken ++ left ≡ value = ap (λ xs. xs ++ left) taken_is ∙ told_in_two told i before after ∙ ap (λ t. column (option_map value_text (told_value t i step))) told_is in
    let first : beginning place i charged sum part ≡ beginning before.place i before.charge after.charge (current_part after.frames) =
    ap (λ p. beginning p i charged sum part) place_is
    ∙ ap (λ n. beginning before.place i n sum part) charged_is
    ∙ ap (λ n. beginning before.place i before.charge n part) sum_is
    ∙ ap (beginning before.place i before.charge after.charge) part_is in
    let flat : beginning before.place i before.charge after.charge (current_part after.frames) ++ value ++ 10 ∷ [] ≡ instruction_line i step =
    ap (λ xs. xs ++ column (option_map part_text (current_part after.frames)) ++ value ++ 10 ∷ [])
    (regrouped (instruction_text before.place i) (codes " | ") (decimal (after.charge - before.charge)) (codes " ") (decimal after.charge)) in
    ap (λ xs. xs ++ 10 ∷ []) (append_assoc (beginning place i charged sum part) taken left ∙ ap (λ xs. beginning place i charged sum part ++ xs) both ∙ ap (λ xs. xs ++ value) first)
    ∙ flat ∙ ap (λ x. option_map_or (λ j. instruction_line j step) x []) (sym here)

-- the same by what a run lets know of these states
pub line_known : (code : Code) (before after : Option State) (told : Told) (i : Instruction) (place charged sum : ℕ) (part : Option ℕ) (taken line : List ℕ) → told ≡ told_of (operation_of i.op) → ((s : State) → before ≡ Some s → slice_get code.instructions s.place ≡ Some i)
    → option_map (λ (s : State). s.place) before ≡ Some place → option_map (λ (s : State). s.charge) before ≡ Some charged → ((s : State) → before ≡ Some s → taken ≡ told_before told s)
    → option_map (λ (s : State). s.charge) after ≡ Some sum → ((s : State) → after ≡ Some s → part ≡ current_part s.frames)
    → ((s : State) → after ≡ Some s → line ≡ beginning place i charged sum part ++ taken ++ told_after told i.c s ++ 10 ∷ []) → line ≡ line_between code before after
line_known code (Some s) (Some t) told i place charged sum part taken line told_is here place_is charged_is taken_is sum_is part_is line_is =
    let place_same : place ≡ s.place = cc in
    let charged_same : charged ≡ s.charge = cc in
    let sum_same : sum ≡ t.charge = cc in
    line_is t refl ∙ line_text code s t told i place charged sum part taken told_is (here s refl) place_same charged_same sum_same (part_is t refl) (taken_is s refl)
line_known code None after told i place charged sum part taken line told_is here place_is charged_is taken_is sum_is part_is line_is = absurd cc
line_known code (Some s) None told i place charged sum part taken line told_is here place_is charged_is taken_is sum_is part_is line_is = absurd cc
