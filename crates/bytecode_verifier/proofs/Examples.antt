-- The definitions at small programs, by computation.
use Rattle.std.proofs.Common.{◌≡◌, ℕ, Bool, List, [], ◌∷◌, Some, None, refl, true, false}
use Rattle.bytecode_format.specs.declared.instruction.Instruction.{Instruction}
use Rattle.bytecode_format.specs.declared.operation.Operation.{Operation}
use Rattle.bytecode_format.specs.declared.operation.Operation.TheVariants.{Halt, Literal, Variable, Capture, Join, Set, Not, Jump as Goto, JumpIfTrue, JumpIfFalse, Keep, Discard, File, Store, Each, Next, Break, Take, Test}
use Rattle.bytecode_format.specs.declared.operation.TestOperation.TheVariants.{Constant, Header, Exists, String, Size, PartSize, PartBody, PartDigest}
use Rattle.bytecode_format.specs.Operations.{octet_of}
use Rattle.bytecode_format.specs.Code.{Code}
use Rattle.bytecode_verifier.specs.declared.error.Refusal.TheVariants.{Index, Form, End, Loop, Jump, NoPart, Stack}
use Rattle.bytecode_verifier.specs.Acceptance.{refusal_of}
use Rattle.bytecode_verifier.specs.Loops.{loops, open_loops, same_loops}
use Rattle.bytecode_cost.specs.Sums.{Sums, budget_at}
use Rattle.bytecode_verifier.specs.Budget.{budget_of}
use Rattle.bytecode_verifier.specs.Rows.{row_named, is_well_formed}

abbrev at : Operation → ℕ → ℕ → Instruction
at operation a c = record { op = octet_of operation; a = a; b = 0; c = c }

abbrev at_octet : ℕ → Instruction
at_octet octet = record { op = octet; a = 0; b = 0; c = 0 }

abbrev plain : Operation → Instruction
plain operation = at operation 0 0

abbrev program : List ℕ → List Instruction → Code
program numbers instructions = record { version = 1; variables = 0; numbers = numbers; strings = []; instructions = instructions }

backward_jump : refusal_of (program [] (at Goto 0 0 ∷ plain Halt ∷ [])) ≡ Some (Jump 0)
backward_jump = refl

no_halt : refusal_of (program [] (plain Keep ∷ [])) ≡ Some (End 0)
no_halt = refl

nothing : refusal_of (program [] []) ≡ Some (End 0)
nothing = refl

missing_entry : refusal_of (program [] (plain Not ∷ plain Halt ∷ [])) ≡ Some (Stack 0)
missing_entry = refl

no_operation : refusal_of (program [] (at_octet 0 ∷ plain Halt ∷ [])) ≡ Some (Form 0)
no_operation = refl

-- the jump leads between a value and what takes it
jump_into_value : refusal_of (program [] (at (Test Constant) 1 0 ∷ at JumpIfFalse 0 3 ∷ at (Test Constant) 1 0 ∷ plain Not ∷ at JumpIfTrue 0 5 ∷ plain Halt ∷ [])) ≡ Some (Stack 3)
jump_into_value = refl

abbrev over_size : List Instruction
over_size = plain (Test Size) ∷ at JumpIfFalse 0 3 ∷ plain Discard ∷ plain Halt ∷ []

missing_number : refusal_of (program [] over_size) ≡ Some (Index 0)
missing_number = refl

accepted : refusal_of (program (7 ∷ []) over_size) ≡ None
accepted = refl

budget : budget_of (program (7 ∷ []) over_size) ≡ record { version = 1; fixed = 4 ∷ 0 ∷ 0 ∷ 0 ∷ []; scaled = 0 ∷ 0 ∷ 0 ∷ 0 ∷ [] }
budget = refl

-- ---- strings

abbrev lists : Operation → ℕ → ℕ → ℕ → Instruction
lists operation a b c = record { op = octet_of operation; a = a; b = b; c = c }

abbrev with_strings : List (List ℕ) → List Instruction → Code
with_strings strings instructions = record { version = 1; variables = 0; numbers = []; strings = strings; instructions = instructions }

abbrev files : List Instruction
files = plain Literal ∷ plain File ∷ plain Halt ∷ []

filed : refusal_of (with_strings ((7 ∷ 7 ∷ 7 ∷ []) ∷ []) files) ≡ None
filed = refl

filed_budget : (budget_of (with_strings ((7 ∷ 7 ∷ 7 ∷ []) ∷ []) files)).fixed ≡ 6 ∷ 0 ∷ 0 ∷ 0 ∷ []
filed_budget = refl

missing_string : refusal_of (with_strings [] files) ≡ Some (Index 0)
missing_string = refl

text_left : refusal_of (with_strings ([] ∷ []) (plain Literal ∷ plain Halt ∷ [])) ≡ Some (Stack 1)
text_left = refl

truth_filed : refusal_of (program [] (at (Test Constant) 1 0 ∷ plain File ∷ plain Halt ∷ [])) ≡ Some (Stack 1)
truth_filed = refl

-- names of 7 and 3 octets, a key of 1, another of 2: 8 + 4, and 2 names times 2 + 3
abbrev two_names : List Instruction
two_names =
    at Literal 0 0 ∷ at Literal 0 1 ∷ at Literal 0 2 ∷ at Literal 0 3 ∷ lists (Test Header) 4 2 2 ∷ at JumpIfFalse 0 7 ∷ plain Discard ∷ plain Halt ∷ []

abbrev lengths : List (List ℕ)
lengths = (1 ∷ 1 ∷ 1 ∷ 1 ∷ 1 ∷ 1 ∷ 1 ∷ []) ∷ (1 ∷ 1 ∷ 1 ∷ []) ∷ (1 ∷ []) ∷ (1 ∷ 1 ∷ []) ∷ []

names_and_keys : refusal_of (with_strings lengths two_names) ≡ None
names_and_keys = refl

names_and_keys_budget : budget_of (with_strings lengths two_names) ≡ record { version = 1; fixed = 8 ∷ 0 ∷ 0 ∷ 0 ∷ []; scaled = 22 ∷ 0 ∷ 0 ∷ 0 ∷ [] }
names_and_keys_budget = refl

-- three keys, where two texts stand
missing_text : refusal_of (with_strings ([] ∷ []) (plain Literal ∷ plain Literal ∷ lists (Test Header) 0 1 3 ∷ at JumpIfFalse 0 4 ∷ plain Halt ∷ [])) ≡ Some (Stack 2)
missing_text = refl

exists_budget : budget_of (with_strings lengths (plain Literal ∷ lists (Test Exists) 0 1 0 ∷ at JumpIfFalse 0 3 ∷ plain Halt ∷ [])) ≡ record { version = 1; fixed = 4 ∷ 0 ∷ 0 ∷ 0 ∷ []; scaled = 8 ∷ 0 ∷ 0 ∷ 0 ∷ [] }
exists_budget = refl

-- ---- variables

abbrev with_variables : ℕ → List Instruction → Code
with_variables variables instructions = record { version = 1; variables = variables; numbers = []; strings = (7 ∷ 7 ∷ []) ∷ []; instructions = instructions }

-- the second variable is set to a join of a string, the first one and a capture: 2 + 4096 + 4096 octets
abbrev sets : ℕ → List Instruction
sets variable = at Literal 0 0 ∷ at Variable 0 variable ∷ at Capture 9 0 ∷ lists Join 0 3 0 ∷ at Set 0x3A 1 ∷ plain Halt ∷ []

set : refusal_of (with_variables 2 (sets 0)) ≡ None
set = refl

set_budget : budget_of (with_variables 2 (sets 0)) ≡ record { version = 1; fixed = 16394 ∷ 0 ∷ 0 ∷ 0 ∷ []; scaled = 0 ∷ 0 ∷ 0 ∷ 0 ∷ [] }
set_budget = refl

missing_variable : refusal_of (with_variables 2 (sets 2)) ≡ Some (Index 1)
missing_variable = refl

missing_set_variable : refusal_of (with_variables 1 (sets 0)) ≡ Some (Index 4)
missing_set_variable = refl

-- five captures of 4,096 octets are joined to at most 16,384, of which each is charged
abbrev joins : List Instruction
joins = plain Capture ∷ plain Capture ∷ plain Capture ∷ plain Capture ∷ plain Capture ∷ lists Join 0 5 0 ∷ plain File ∷ plain Halt ∷ []

join_budget : (budget_of (program [] joins)).fixed ≡ 36872 ∷ 0 ∷ 0 ∷ 0 ∷ []
join_budget = refl

join_of_a_truth : refusal_of (program [] (at (Test Constant) 1 0 ∷ plain Capture ∷ lists Join 0 2 0 ∷ plain File ∷ plain Halt ∷ [])) ≡ Some (Stack 2)
join_of_a_truth = refl

-- sources of 7 and 3 octets, a key of 1, another of 2: 8 + 4, times 2 + 3
string_budget : (budget_of (with_strings lengths (at Literal 0 0 ∷ at Literal 0 1 ∷ at Literal 0 2 ∷ at Literal 0 3 ∷ lists (Test String) 4 2 2 ∷ at JumpIfFalse 0 7 ∷ plain Discard ∷ plain Halt ∷ []))).fixed ≡ 68 ∷ 0 ∷ 0 ∷ 0 ∷ []
string_budget = refl

-- of fields: lists of 1 to 512, ways to match, scopes and selectors
abbrev formed : (i : Instruction) → Bool
formed i = is_well_formed (row_named 1 i.op) i

no_names : formed (lists (Test Header) 0 0 1) ≡ false
no_names = refl

no_keys : formed (lists (Test Header) 0 1 0) ≡ false
no_keys = refl

most_names : formed (lists (Test Header) 6 512 512) ≡ true
most_names = refl

a_name_too_many : formed (lists (Test Header) 0 513 1) ≡ false
a_name_too_many = refl

a_key_too_many : formed (lists (Test Header) 0 1 513) ≡ false
a_key_too_many = refl

no_fourth_way : formed (lists (Test Header) 3 1 1) ≡ false
no_fourth_way = refl

no_fourth_way_of_octets : formed (lists (Test Header) 7 1 1) ≡ false
no_fourth_way_of_octets = refl

last_scope : formed (lists (Test Header) 16 1 1) ≡ true
last_scope = refl

no_fourth_scope : formed (lists (Test Header) 24 1 1) ≡ false
no_fourth_scope = refl

exists_in_the_last_scope : formed (lists (Test Exists) 2 1 0) ≡ true
exists_in_the_last_scope = refl

exists_in_no_fourth_scope : formed (lists (Test Exists) 3 1 0) ≡ false
exists_in_no_fourth_scope = refl

-- the contenttype of fields, and their parameters
no_parameters : formed (lists (Test Header) 96 1 1) ≡ true
no_parameters = refl

parameters_of_a_contenttype : formed (lists (Test Header) 96 1 0x10001) ≡ false
parameters_of_a_contenttype = refl

parameters_missing : formed (lists (Test Header) 128 1 1) ≡ false
parameters_missing = refl

one_parameter : formed (lists (Test Header) 128 1 0x10001) ≡ true
one_parameter = refl

most_parameters : formed (lists (Test Header) 150 512 0x2000200) ≡ true
most_parameters = refl

a_parameter_too_many : formed (lists (Test Header) 128 1 0x2010001) ≡ false
a_parameter_too_many = refl

no_sixth_selector : formed (lists (Test Header) 160 1 1) ≡ false
no_sixth_selector = refl

tenth_capture : formed (at Capture 10 0) ≡ false
tenth_capture = refl

join_of_one : formed (lists Join 0 1 0) ≡ false
join_of_one = refl

longest_join : formed (lists Join 0 256 0) ≡ true
longest_join = refl

longer_join : formed (lists Join 0 257 0) ≡ false
longer_join = refl

all_modifiers : formed (at Set 0x3A 0) ≡ true
all_modifiers = refl

both_cases : formed (at Set 3 0) ≡ false
both_cases = refl

seventh_bit : formed (at Set 0x40 0) ≡ false
seventh_bit = refl

no_sources : formed (lists (Test String) 0 0 1) ≡ false
no_sources = refl

most_sources : formed (lists (Test String) 6 512 512) ≡ true
most_sources = refl

-- a stray Next, a loop in a loop, a stray Next and a stray Each
abbrev brackets : Code
brackets = program [] (plain Next ∷ plain Each ∷ plain Keep ∷ plain Each ∷ plain Next ∷ plain Next ∷ plain Next ∷ plain Each ∷ [])

matched : loops brackets ≡ record { each = 1; next = 5 } ∷ record { each = 3; next = 4 } ∷ []
matched = refl

-- an Each stands outside its loop, a Next inside
at_each : open_loops brackets 3 ≡ record { each = 1; next = 5 } ∷ []
at_each = refl

at_next : open_loops brackets 4 ≡ record { each = 1; next = 5 } ∷ record { each = 3; next = 4 } ∷ []
at_next = refl

into_other_loop : same_loops brackets 2 4 ≡ false
into_other_loop = refl

within_one_loop : same_loops brackets 2 5 ≡ true
within_one_loop = refl

-- four loops in one another
abbrev nested : Code
nested = program [] (at Each 0 7 ∷ at Each 0 6 ∷ at Each 0 5 ∷ at Each 0 4 ∷ at Next 0 3 ∷ at Next 0 2 ∷ at Next 0 1 ∷ at Next 0 0 ∷ plain Halt ∷ [])

fourth_loop : refusal_of nested ≡ Some (Loop 3)
fourth_loop = refl

three_loops : refusal_of (program [] (at Each 0 5 ∷ at Each 0 4 ∷ at Each 0 3 ∷ at Next 0 2 ∷ at Next 0 1 ∷ at Next 0 0 ∷ plain Halt ∷ [])) ≡ None
three_loops = refl

-- a loop whose Each and Next name each other, with a Break in it
abbrev one_loop : ℕ → ℕ → ℕ → Code
one_loop next each broken = program [] (at Each 0 next ∷ at Break broken 0 ∷ at Next 0 each ∷ plain Halt ∷ [])

a_loop : refusal_of (one_loop 2 0 1) ≡ None
a_loop = refl

each_names_another_place : refusal_of (one_loop 3 0 1) ≡ Some (Loop 0)
each_names_another_place = refl

next_names_another_place : refusal_of (one_loop 2 1 1) ≡ Some (Loop 2)
next_names_another_place = refl

break_of_two_loops : refusal_of (one_loop 2 0 2) ≡ Some (Loop 1)
break_of_two_loops = refl

break_of_none : refusal_of (one_loop 2 0 0) ≡ Some (Form 1)
break_of_none = refl

break_of_four : refusal_of (one_loop 2 0 4) ≡ Some (Form 1)
break_of_four = refl

break_outside : refusal_of (program [] (at Break 1 0 ∷ plain Halt ∷ [])) ≡ Some (Loop 0)
break_outside = refl

next_alone : refusal_of (program [] (plain Next ∷ plain Halt ∷ [])) ≡ Some (Loop 0)
next_alone = refl

each_alone : refusal_of (program [] (plain Each ∷ plain Halt ∷ [])) ≡ Some (Loop 0)
each_alone = refl

-- an Each that is never closed, and a Next of a loop before it
first_unmatched : refusal_of (program [] (at Each 0 4 ∷ at Each 0 2 ∷ at Next 0 1 ∷ plain Keep ∷ plain Halt ∷ [])) ≡ Some (Loop 0)
first_unmatched = refl

-- into a loop, out of it, within it, and from one into another
jump_into_loop : refusal_of (program [] (at Goto 0 2 ∷ at Each 0 3 ∷ plain Keep ∷ at Next 0 1 ∷ plain Halt ∷ [])) ≡ Some (Jump 0)
jump_into_loop = refl

jump_out_of_loop : refusal_of (program [] (at Each 0 2 ∷ at Goto 0 3 ∷ at Next 0 0 ∷ plain Halt ∷ [])) ≡ Some (Jump 1)
jump_out_of_loop = refl

jump_to_the_end_of_the_loop : refusal_of (program [] (at Each 0 3 ∷ at Goto 0 3 ∷ plain Keep ∷ at Next 0 0 ∷ plain Halt ∷ [])) ≡ None
jump_to_the_end_of_the_loop = refl

jump_over_a_loop : refusal_of (program [] (at Goto 0 3 ∷ at Each 0 2 ∷ at Next 0 1 ∷ plain Halt ∷ [])) ≡ None
jump_over_a_loop = refl

jump_into_another_loop : refusal_of (program [] (at Each 0 2 ∷ at Goto 0 4 ∷ at Next 0 0 ∷ at Each 0 4 ∷ at Next 0 3 ∷ plain Halt ∷ [])) ≡ Some (Jump 1)
jump_into_another_loop = refl

-- operations on the current part, outside of a loop and in one
part_size_outside : refusal_of (program (7 ∷ []) (plain (Test PartSize) ∷ at JumpIfFalse 0 2 ∷ plain Halt ∷ [])) ≡ Some (NoPart 0)
part_size_outside = refl

part_size_inside : refusal_of (program (7 ∷ []) (at Each 0 4 ∷ plain (Test PartSize) ∷ at JumpIfFalse 0 4 ∷ plain Discard ∷ at Next 0 0 ∷ plain Halt ∷ [])) ≡ None
part_size_inside = refl

part_size_of_no_number : refusal_of (program [] (at Each 0 4 ∷ plain (Test PartSize) ∷ at JumpIfFalse 0 4 ∷ plain Discard ∷ at Next 0 0 ∷ plain Halt ∷ [])) ≡ Some (Index 1)
part_size_of_no_number = refl

store_outside : refusal_of (with_strings ((7 ∷ []) ∷ []) (plain Literal ∷ plain Store ∷ plain Halt ∷ [])) ≡ Some (NoPart 1)
store_outside = refl

store_after_a_loop : refusal_of (with_strings ((7 ∷ []) ∷ []) (at Each 0 1 ∷ at Next 0 0 ∷ plain Literal ∷ plain Store ∷ plain Halt ∷ [])) ≡ Some (NoPart 3)
store_after_a_loop = refl

-- the other rules, with a loop in the program
index_in_a_loop : refusal_of (with_strings [] (at Each 0 3 ∷ plain Literal ∷ plain Store ∷ at Next 0 0 ∷ plain Halt ∷ [])) ≡ Some (Index 1)
index_in_a_loop = refl

form_in_a_loop : refusal_of (program [] (at Each 0 2 ∷ at Keep 1 0 ∷ at Next 0 0 ∷ plain Halt ∷ [])) ≡ Some (Form 1)
form_in_a_loop = refl

ends_in_a_loop : refusal_of (program [] (at Each 0 1 ∷ at Next 0 0 ∷ [])) ≡ Some (End 1)
ends_in_a_loop = refl

value_left_at_a_loop : refusal_of (program [] (at (Test Constant) 1 0 ∷ at Each 0 2 ∷ at Next 0 1 ∷ plain Halt ∷ [])) ≡ Some (Stack 1)
value_left_at_a_loop = refl

value_left_in_a_loop : refusal_of (program [] (at Each 0 2 ∷ at (Test Constant) 1 0 ∷ at Next 0 0 ∷ plain Halt ∷ [])) ≡ Some (Stack 2)
value_left_in_a_loop = refl

value_left_at_a_break : refusal_of (program [] (at Each 0 3 ∷ at (Test Constant) 1 0 ∷ at Break 1 0 ∷ at Next 0 0 ∷ plain Halt ∷ [])) ≡ Some (Stack 2)
value_left_at_a_break = refl

-- an Each counts outside of its loop, a Next in it
two_loops_budget : budget_of (program [] (at Each 0 4 ∷ at Each 0 3 ∷ plain Keep ∷ at Next 0 1 ∷ at Next 0 0 ∷ plain Halt ∷ [])) ≡ record { version = 1; fixed = 2 ∷ 2 ∷ 2 ∷ 0 ∷ []; scaled = 0 ∷ 0 ∷ 0 ∷ 0 ∷ [] }
two_loops_budget = refl

-- a part's content with keys of 1 and 2 octets, its digest with one of 7, and a folder of 3
abbrev parts : List Instruction
parts =
    at Each 0 10 ∷ at Literal 0 2 ∷ at Literal 0 3 ∷ at (Test PartBody) 4 2 ∷ at JumpIfFalse 0 10 ∷ at Literal 0 0 ∷ at (Test PartDigest) 0 1 ∷ at JumpIfFalse 0 10
    ∷ at Literal 0 1 ∷ plain Store ∷ at Next 0 0 ∷ plain Halt ∷ []

parts_accepted : refusal_of (with_strings lengths parts) ≡ None
parts_accepted = refl

-- 1 and 65 times 8, 1 and 3, and one for each of the others
parts_budget : budget_of (with_strings lengths parts) ≡ record { version = 1; fixed = 2 ∷ 533 ∷ 0 ∷ 0 ∷ []; scaled = 0 ∷ 5 ∷ 0 ∷ 0 ∷ [] }
parts_budget = refl

-- two parameters of a field of 3 octets, a key of 1: 4, and twice 2
abbrev parameters : List Instruction
parameters = at Literal 0 1 ∷ at Literal 0 0 ∷ at Literal 0 3 ∷ at Literal 0 2 ∷ lists (Test Header) 128 1 0x20001 ∷ at JumpIfFalse 0 6 ∷ plain Halt ∷ []

parameters_accepted : refusal_of (with_strings lengths parameters) ≡ None
parameters_accepted = refl

parameters_budget : (budget_of (with_strings lengths parameters)).scaled ≡ 8 ∷ 0 ∷ 0 ∷ 0 ∷ []
parameters_budget = refl

-- a parameter is missing on the stack
parameter_missing : refusal_of (with_strings lengths (at Literal 0 1 ∷ at Literal 0 3 ∷ at Literal 0 2 ∷ lists (Test Header) 128 1 0x20001 ∷ at JumpIfFalse 0 5 ∷ plain Halt ∷ [])) ≡ Some (Stack 3)
parameter_missing = refl

-- ---- Take, and version 2

abbrev in_version : ℕ → ℕ → List Instruction → Code
in_version version variables instructions = record { version = version; variables = variables; numbers = []; strings = (1 ∷ []) ∷ []; instructions = instructions }

abbrev takes_at_once : List Instruction
takes_at_once = lists Take 0 1 0 ∷ plain Halt ∷ []

take_of_no_variable : refusal_of (in_version 2 0 takes_at_once) ≡ Some (Index 0)
take_of_no_variable = refl

take_outside : refusal_of (in_version 2 1 takes_at_once) ≡ Some (NoPart 0)
take_outside = refl

-- in version 1 there is no such operation
take_in_version_one : (refusal_of (in_version 1 0 takes_at_once) ≡ Some (Form 0)) × (refusal_of (in_version 1 1 takes_at_once) ≡ Some (Form 0))
take_in_version_one = (refl, refl)

abbrev takes : ℕ → ℕ → ℕ → List Instruction
takes a b c = at Each 0 2 ∷ lists Take a b c ∷ at Next 0 0 ∷ plain Halt ∷ []

takes_in_a_loop : (refusal_of (in_version 2 1 (takes 0 1 0)) ≡ None) × (refusal_of (in_version 1 1 (takes 0 1 0)) ≡ Some (Form 1))
takes_in_a_loop = (refl, refl)

takes_no_octet : refusal_of (in_version 2 1 (takes 0 0 0)) ≡ Some (Form 1)
takes_no_octet = refl

takes_most : refusal_of (in_version 2 1 (takes 0 4096 0)) ≡ None
takes_most = refl

takes_one_more : refusal_of (in_version 2 1 (takes 0 4097 0)) ≡ Some (Form 1)
takes_one_more = refl

takes_with_a_field_too_many : refusal_of (in_version 2 1 (takes 1 1 0)) ≡ Some (Form 1)
takes_with_a_field_too_many = refl

takes_another_variable : refusal_of (in_version 2 1 (takes 0 1 1)) ≡ Some (Index 1)
takes_another_variable = refl

-- what stands on the stack stays
takes_below_a_folder : refusal_of (in_version 2 1 (at Each 0 4 ∷ at Literal 0 0 ∷ lists Take 0 1 0 ∷ plain Store ∷ at Next 0 0 ∷ plain Halt ∷ [])) ≡ None
takes_below_a_folder = refl

-- a loop that takes three octets, and a folder of that name
take_budget : budget_of (in_version 2 1 (at Each 0 2 ∷ lists Take 0 3 0 ∷ at Next 0 0 ∷ at Variable 0 0 ∷ plain File ∷ plain Halt ∷ []))
    ≡ (let sums : Sums = record { version = 2; fixed = 4100 ∷ 5 ∷ 0 ∷ 0 ∷ []; scaled = 0 ∷ 0 ∷ 0 ∷ 0 ∷ [] } in sums)
take_budget = refl

keeps_in_version_two : (refusal_of (in_version 2 0 (plain Keep ∷ plain Halt ∷ [])) ≡ None) × ((budget_of (in_version 2 0 (plain Keep ∷ plain Halt ∷ []))).fixed ≡ 2 ∷ 0 ∷ 0 ∷ 0 ∷ [])
keeps_in_version_two = (refl, refl)

abbrev loops_in_loops : List Instruction
loops_in_loops = at Each 0 6 ∷ at Each 0 5 ∷ at Each 0 4 ∷ plain Keep ∷ at Next 0 2 ∷ at Next 0 1 ∷ at Next 0 0 ∷ plain Halt ∷ []

loops_in_loops_budget : (budget_at (budget_of (in_version 2 0 loops_in_loops)) 0 5 ≡ 52) × (budget_at (budget_of (in_version 1 0 loops_in_loops)) 0 5 ≡ 312)
loops_in_loops_budget = (refl, refl)
