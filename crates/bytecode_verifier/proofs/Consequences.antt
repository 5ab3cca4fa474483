-- What acceptance says of the instruction at a place, for what is proved of runs.
use Rattle.std.proofs.Common.{◌≡◌, ℕ, zero, suc, ◌+◌, ◌-◌, ◌<◌, ◌≤◌, nat_lt, Bool, true, false, not, ◌&&◌, ◌||◌, ◌==◌, nat_le, List, [], ◌∷◌, Option, Some, None, is_some, is_none, if◌then◌else◌, length, get_or, slice_get, refl, sym, ap, ◌∙◌, inl, inr, arith, leb-false, leb-true}
use Rattle.std.proofs.lemmas.Bool.{cases_lt, eqb-true, ltb-false}
use Rattle.std.proofs.lemmas.Option.{slice_get_within, slice_get-get_or}
use Rattle.std.proofs.lemmas.Map.Keys.{any_passes_from_place}
use Rattle.octets.specs.Limits.{max_loops, max_value}
use Rattle.bytecode_format.specs.declared.instruction.Instruction.{Instruction}
use Rattle.bytecode_format.specs.declared.operation.Operation.TheVariants.{Literal, Variable, Set, Break, Take, Test}
use Rattle.bytecode_format.specs.declared.operation.TestOperation.{TestOperation}
use Rattle.bytecode_format.specs.declared.operation.TestOperation.TheVariants.{Constant}
use Rattle.bytecode_format.specs.declared.question.Order.{Order}
use Rattle.bytecode_format.specs.declared.question.Question.{Question}
use Rattle.bytecode_format.specs.Questions.{question_in}
use Rattle.bytecode_format.specs.Operations.{operation_of}
use Rattle.bytecode_format.specs.Code.{Code}
use Rattle.bytecode_format.specs.declared.modifiers.Modifiers.{Modifiers}
use Rattle.bytecode_format.specs.Modifiers.{modifiers_numbered}
use Rattle.bytecode_verifier.specs.Loops.{open_loops, same_loops}
use Rattle.std.specs.Option.{option_and_then, option_map}
use Rattle.bytecode_format.specs.declared.operation.Operation.{Operation}
use Rattle.bytecode_verifier.specs.declared.row.Row.{Row}
use Rattle.bytecode_verifier.specs.Rows.{row_of, test_row, row_in_version, takes, is_well_formed, is_jump}
use Rattle.bytecode_verifier.specs.Shape.{Entries, is_empty, is_target, entries_after, shape_after, shape_at}
use Rattle.bytecode_verifier.specs.Rules.{row_in, misses_index, is_halt, breaks_form}
use Rattle.bytecode_verifier.specs.Acceptance.{IsAccepted}
use Rattle.bytecode_verifier.proofs.Tests.{same_place}

pub or_parts : (a b : Bool) → (a || b) ≡ false → (a ≡ false) × (b ≡ false)
or_parts false b h = (refl, h)
or_parts true b h = absurd (cc)

pub not_false : (b : Bool) → not b ≡ false → b ≡ true
not_false true h = refl
not_false false h = absurd (cc)

and_second : (a b : Bool) → (a && b) ≡ false → a ≡ true → b ≡ false
and_second true b h t = h
and_second false b h t = absurd (cc)

some_of : (o : Option Entries) → is_none o ≡ false → (entries : Entries) × (o ≡ Some entries)
some_of None h = absurd (cc)
some_of (Some entries) h = (entries, refl)

guarded : (guard : Bool) (o : Option Entries) (next : Entries) → (if guard then None else o) ≡ Some next → (guard ≡ false) × (o ≡ Some next)
guarded true o next h = absurd (cc)
guarded false o next h = (refl, h)

empty_from : (entries : Entries) → not (is_empty entries) ≡ false → entries ≡ []
empty_from [] h = refl
empty_from (entry ∷ entries) h = absurd (cc)

pub known : {A : Type 0} (o : Option A) → is_some o ≡ true → (x : A) × (o ≡ Some x)
known None h = absurd (cc)
known (Some x) h = (x, refl)

both : (a b : Bool) → (a && b) ≡ true → (a ≡ true) × (b ≡ true)
both true b h = (refl, h)
both false b h = absurd cc

all_three : (a b c : Bool) → (a && b && c) ≡ true → (a ≡ true) × (b ≡ true) × (c ≡ true)
all_three true true c h = (refl, refl, h)
all_three true false c h = absurd cc
all_three false b c h = absurd cc

-- the first field is in its range
in_range : (row : Row) (i : Instruction) → is_well_formed (Some row) i ≡ true → takes i.a row.a i.a ≡ true
in_range row i h = (all_three (takes i.a row.a i.a) (takes i.a row.b i.b) (takes i.a row.c i.c) h).0

-- an operation that its version has: its first field is in its range, and its index there
row_taken : (code : Code) (row : Row) (i : Instruction) (without : Bool) → is_well_formed (if without then None else Some row) i ≡ true → misses_index code (if without then None else Some row) i ≡ false
    → (takes i.a row.a i.a ≡ true) × (misses_index code (Some row) i ≡ false)
row_taken code row i true formed indexed = absurd cc
row_taken code row i false formed indexed = (in_range row i formed, indexed)

-- an operation of version 2 alone that is allowed is so in version 2
in_two : (row : Row) (i : Instruction) (two : Bool) → is_well_formed (if not two then None else Some row) i ≡ true → two ≡ true
in_two row i true h = refl
in_two row i false h = absurd cc

-- what a field means, where it means something
meant : {A : Type 0} (o : Option A) (make : A → Question) → is_some o ≡ true → (q : Question) × (option_map make o ≡ Some q)
meant None make h = absurd cc
meant (Some x) make h = (make x, refl)

-- and with a number that is there
compared : (order : Option Order) (numbers : List ℕ) (place : ℕ) (make : Order → ℕ → Question) → is_some order ≡ true → nat_le (length numbers) place ≡ false
    → (q : Question) × (option_and_then (λ o. option_map (make o) (slice_get numbers place)) order ≡ Some q)
compared None numbers place make h below = absurd cc
compared (Some order) numbers place make h below =
    (make order (get_or numbers place 0), rw (slice_get-get_or numbers place 0 (leb-false (length numbers) place below)) refl)

-- or whatever the fields are
asked : (question : Question) → (q : Question) × (Some question ≡ Some q)
asked question = (question, refl)

ruleset asking = (meant, compared, asked)

-- a test whose first field is in its range, and whose number is there, asks something
asks : (code : Code) (i : Instruction) (test : TestOperation) → takes i.a (test_row test).a i.a ≡ true → misses_index code (Some (test_row test)) i ≡ false
    → (q : Question) × (question_in code.numbers test i ≡ Some q)
asks code i Constant fits there = search asking
asks code i _ fits there = search asking

-- the form of the instruction at a place, where the rule isn't broken there
pub form_at : (code : Code) (place : ℕ) (i : Instruction) → breaks_form code place ≡ false → slice_get code.instructions place ≡ Some i → is_well_formed (row_in code i) i ≡ true
form_at code place i h e = not_false _ (rw e at h)

-- the entries that an operation leaves, if there is one
abbrev pub left_by : Code → Option Operation → Instruction → Entries → Option Entries
left_by code operation i entries = option_and_then (λ o. entries_after code o i entries) operation

module _ (code : Code) (is : IsAccepted code) where
  module _ (place : ℕ) (i : Instruction) (here : slice_get code.instructions place ≡ Some i) where
    -- the operation has come, and its fields are in their ranges
    pub well_formed : is_well_formed (row_in code i) i ≡ true
    well_formed = form_at code place i (is.form place) here

    formed_as : (operation : Operation) → operation_of i.op ≡ Some operation → is_well_formed (row_in_version code.version operation) i ≡ true
    formed_as operation named = ap (λ o. is_well_formed (option_and_then (row_in_version code.version) o) i) (sym named) ∙ well_formed

    indexed_as : (operation : Operation) → operation_of i.op ≡ Some operation → misses_index code (row_in_version code.version operation) i ≡ false
    indexed_as operation named =
        let broken : misses_index code (row_in code i) i ≡ false = rw here at (is.index place) in
        ap (λ o. misses_index code (option_and_then (row_in_version code.version) o) i) (sym named) ∙ broken

    -- the index is below the count of strings
    pub string_known : operation_of i.op ≡ Some Literal → i.c < length code.strings
    string_known literal = leb-false (length code.strings) i.c (indexed_as Literal literal)

    -- the index is below the count of variables
    pub variable_known : operation_of i.op ≡ Some Variable → i.c < code.variables
    variable_known variable = leb-false code.variables i.c (indexed_as Variable variable)

    pub set_known : operation_of i.op ≡ Some Set → i.c < code.variables
    set_known set = leb-false code.variables i.c (indexed_as Set set)

    -- a test asks something
    pub question_known : (test : TestOperation) → operation_of i.op ≡ Some (Test test) → (q : Question) × (question_in code.numbers test i ≡ Some q)
    question_known test named =
        let taken = row_taken code (test_row test) i _ (formed_as (Test test) named) (indexed_as (Test test) named) in
        asks code i test taken.0 taken.1

    -- a Break is of one loop or more, and of no more than are open
    pub break_known : operation_of i.op ≡ Some Break → (1 ≤ i.a) × (i.a ≤ length (open_loops code place))
    break_known breaks =
        let missed : nat_lt (length (open_loops code place)) i.a ≡ false = rw (here, breaks) at (is.loop place) in
        let parts = all_three (nat_le 1 i.a && nat_le i.a max_loops) (i.b == 0) (i.c == 0) (formed_as Break breaks) in
        (leb-true 1 i.a (both (nat_le 1 i.a) (nat_le i.a max_loops) parts.0).0, ltb-false (length (open_loops code place)) i.a missed)

    -- the number is that of modifiers
    pub modifiers_known : operation_of i.op ≡ Some Set → (modifiers : Modifiers) × (modifiers_numbered i.a ≡ Some modifiers)
    modifiers_known set = known (modifiers_numbered i.a) (in_range (row_of Set) i (formed_as Set set))

    -- a Take stands in programs of version 2 alone
    pub take_version : operation_of i.op ≡ Some Take → code.version ≡ 2
    take_version named = eqb-true code.version 2 (in_two (row_of Take) i (code.version == 2) (formed_as Take named))

    pub take_row : operation_of i.op ≡ Some Take → row_in code i ≡ Some (row_of Take)
    take_row named = ap (λ o. option_and_then (row_in_version code.version) o) named ∙ rw (take_version named) refl

    -- the index of a Take is below the count of variables
    pub take_variable_known : operation_of i.op ≡ Some Take → i.c < code.variables
    take_variable_known named =
        let broken : misses_index code (row_in code i) i ≡ false = rw here at (is.index place) in
        leb-false code.variables i.c (ap (λ row. misses_index code row i) (sym (take_row named)) ∙ broken)

    -- a Take is of one octet or more, and of no more than a value has
    pub take_known : operation_of i.op ≡ Some Take → (1 ≤ i.b) × (i.b ≤ max_value)
    take_known named =
        let formed : is_well_formed (Some (row_of Take)) i ≡ true = ap (λ row. is_well_formed row i) (sym (take_row named)) ∙ well_formed in
        let parts = all_three (i.a == 0) (nat_le 1 i.b && nat_le i.b max_value) true formed in
        let range = both (nat_le 1 i.b) (nat_le i.b max_value) parts.1 in
        (leb-true 1 i.b range.0, leb-true i.b max_value range.1)

    -- an instruction that doesn't end the run isn't the last
    pub not_last : is_halt (operation_of i.op) ≡ false → place + 1 < length code.instructions
    not_last goes =
        let within = slice_get_within code.instructions place i here in
        elim (cases_lt (place + 1) (length code.instructions)) [
          | inl lt ↦ lt
          | inr le ↦
              let last : place ≡ length code.instructions - 1 = omega arith in
              let at_last : (place == length code.instructions - 1) ≡ true = rw (← last) (same_place place) in
              let broken : ((place == length code.instructions - 1) && not (is_halt (operation_of i.op))) ≡ false = rw here at (is.end place) in
              let missed : ((place == length code.instructions - 1) && not (is_halt (operation_of i.op))) ≡ true = rw (at_last, goes) refl in
              absurd (let both : true ≡ false = sym missed ∙ broken in cc)
        ]

    jump_parts : is_jump (row_in code i) ≡ true → ((nat_le i.c place || nat_le (length code.instructions) i.c) ≡ false) × (not (same_loops code place i.c) ≡ false)
    jump_parts jump = or_parts _ _ (rw (here, jump) at (is.jump place))

    -- a jump leads forward
    pub jump_forward : is_jump (row_in code i) ≡ true → place < i.c
    jump_forward jump = leb-false i.c place (or_parts _ _ (jump_parts jump).0).0

    -- a jump leads to an instruction
    pub jump_within : is_jump (row_in code i) ≡ true → i.c < length code.instructions
    jump_within jump = leb-false (length code.instructions) i.c (or_parts _ _ (jump_parts jump).0).1

    -- a jump leads to a place with the same open loops
    pub jump_same_loops : is_jump (row_in code i) ≡ true → same_loops code place i.c ≡ true
    jump_same_loops jump = not_false _ (jump_parts jump).1

    -- the place that a jump names is a target
    pub jump_target : is_jump (row_in code i) ≡ true → is_target code.version code.instructions i.c ≡ true
    jump_target jump = any_passes_from_place (λ j. is_jump (row_in code j) && (j.c == i.c)) code.instructions place i here (rw jump (same_place i.c))

  -- the shape goes on at every place
  pub shape_goes_on : (place : ℕ) (entries : Entries) → shape_at code place ≡ Some entries → (next : Entries) × (shape_at code (suc place) ≡ Some next)
  shape_goes_on place entries at = some_of (shape_at code (suc place)) (and_second (is_some (shape_at code place)) _ (is.stack place) (ap is_some at))

  -- the shape goes up to every place
  pub shape_known : (place : ℕ) → (entries : Entries) × (shape_at code place ≡ Some entries)
  shape_known zero = ([], refl)
  shape_known (suc place) = let before = shape_known place in shape_goes_on place before.0 before.1

  module _ (place : ℕ) (i : Instruction) (entries : Entries) (here : slice_get code.instructions place ≡ Some i) (at : shape_at code place ≡ Some entries) where
    following : (next : Entries) × (shape_at code (suc place) ≡ Some next) × (shape_after code (is_target code.version code.instructions place) (operation_of i.op) i entries ≡ Some next)
    following =
        let next = shape_goes_on place entries at in
        (next.0, next.1, rw (at, here) at next.1)

    -- the instruction takes the shape to that of the next place
    pub shape_next : (next : Entries) × (left_by code (operation_of i.op) i entries ≡ Some next) × (shape_at code (suc place) ≡ Some next)
    shape_next = let b = following in (b.0, (guarded _ _ b.0 b.2).1, b.1)

    -- where a jump leads to there are no entries
    pub target_empty : is_target code.version code.instructions place ≡ true → entries ≡ []
    target_empty target =
        let b = following in
        let none : (is_target code.version code.instructions place && not (is_empty entries)) ≡ false = (guarded _ _ b.0 b.2).0 in
        empty_from entries (rw target at none)
