-- The code of a script: of each piece the instructions, from the place on where the piece begins.
use Rattle.std.specs.Prelude.{ℕ, ◌+◌, Bool, true, false, not, List, [], ◌∷◌, ◌++◌, flat_map, length, map}
use Rattle.bytecode_format.specs.declared.instruction.Instruction.{Instruction}
use Rattle.bytecode_format.specs.declared.operation.Operation.{Operation}
use Rattle.bytecode_format.specs.declared.operation.Operation.TheVariants as operation
use Rattle.bytecode_format.specs.declared.operation.Operation.TheVariants.{Halt, Literal, Join, Jump, JumpIfTrue, JumpIfFalse, Each, Next}
use Rattle.bytecode_format.specs.Modifiers.{modifiers_number}
use Rattle.bytecode_format.specs.declared.question.Counts.{Counts}
use Rattle.bytecode_format.specs.Questions.{instruction_of, row_of}
use Rattle.bytecode_format.specs.Operations.{octet_of}
use Rattle.bytecode_format.specs.Code.{Code}
use Rattle.sieve_check.specs.declared.typed.Act.{Act}
use Rattle.sieve_check.specs.declared.typed.Act.TheVariants.{Keep, Discard, FileInto, Set, Take, Store, Leave, Stop}
use Rattle.bytecode_format.specs.declared.question.Question.{Question}
use Rattle.sieve_check.specs.declared.typed.Segment.{Segment}
use Rattle.sieve_check.specs.declared.typed.Segment.TheVariants.{Text, Variable, Capture}
use Rattle.sieve_check.specs.Acts.{act_strings}
use Rattle.sieve_check.specs.Typed.{Template, Strings, in_order, TestForm, asks, negation, all_of, any_of, TestForms, no_test, test, CommandForm, does, for_every_part, choice, CommandForms, no_command, command, BranchForms, no_branch, otherwise, branch}
use Rattle.sieve_compiler.specs.Lengths.{test_length, tests_length, commands_length, command_length, leave_length, branches_length}
use Rattle.sieve_compiler.specs.Tables.{Tables, tables_of, place_of_number, place_of_string, place_of_variable}

-- an instruction with all its fields
abbrev pub instruction_with : Operation → ℕ → ℕ → ℕ → Instruction
instruction_with kind a b c = record { op = octet_of kind; a = a; b = b; c = c }

-- an instruction with its fields a and c
abbrev pub instruction : Operation → ℕ → ℕ → Instruction
instruction kind a c = instruction_with kind a 0 c

-- an instruction without fields
abbrev pub plain : Operation → Instruction
plain kind = instruction kind 0 0

-- a jump to the target where the truth value taken is this one
abbrev pub jump_if : Bool → ℕ → Instruction
jump_if true target = instruction JumpIfTrue 0 target
jump_if false target = instruction JumpIfFalse 0 target

-- a text, by its place in the table
abbrev pub push_text : Tables → List ℕ → Instruction
push_text tables text = instruction Literal 0 (place_of_string tables text)

-- a segment of a string: a text, or the value of a variable or a capture
abbrev pub push_segment : Tables → Segment → Instruction
push_segment tables (Text octets) = push_text tables octets
push_segment tables (Variable name) = instruction operation.Variable 0 (place_of_variable tables name)
push_segment tables (Capture n) = instruction operation.Capture n 0

-- so many texts as one
abbrev pub join_texts : ℕ → Instruction
join_texts texts = instruction_with Join 0 texts 0

-- a string: one text or one reference, or else its segments, joined
abbrev pub string_code : Tables → Template → List Instruction
string_code tables [] = push_text tables [] ∷ []
string_code tables (segment ∷ []) = push_segment tables segment ∷ []
string_code tables (one ∷ other ∷ more) = map (push_segment tables) (one ∷ other ∷ more)
    ++ join_texts (length (one ∷ other ∷ more)) ∷ []

-- strings, one after the other
abbrev pub strings_code : Tables → List Template → List Instruction
strings_code tables strings = flat_map (string_code tables) strings

-- how many strings a test has
abbrev pub counts_of : Strings → Counts
counts_of strings = record { names = length strings.names; params = length strings.params; keys = length strings.keys }

-- the place of a number that a question compares with, if it does
abbrev pub place_of_first : Tables → List ℕ → ℕ
place_of_first tables [] = 0
place_of_first tables (number ∷ numbers) = place_of_number tables number

-- the instruction of a question, after its strings
abbrev pub question_code : Tables → Question → Strings → Instruction
question_code tables question strings =
    instruction_of question (counts_of strings) (place_of_first tables (row_of question).numbers)

-- the instruction of each act, after its string
abbrev pub act_code : Tables → Act → Instruction
act_code tables Keep = plain operation.Keep
act_code tables Discard = plain operation.Discard
act_code tables FileInto = plain operation.File
act_code tables (Set modifiers name) = instruction operation.Set (modifiers_number modifiers)
    (place_of_variable tables name)
act_code tables (Take most name) = instruction_with operation.Take 0 most (place_of_variable tables name)
act_code tables Store = plain operation.Store
act_code tables (Leave loops) = instruction operation.Break loops 0
act_code tables Stop = plain operation.Halt

-- a test of a list jumps where it decides the list alone, as a false one does of allof and a true one of anyof;
-- the last one, after which nothing stands, jumps where the list has the value that is asked for
abbrev pub asked_of : Bool → Bool → TestForms → Bool
asked_of deciding asked no_test = asked
asked_of deciding asked (test t ts) = deciding

-- where a test of a list jumps to: where it decides the list otherwise than is asked for, after the list
abbrev pub aim_of : Bool → Bool → TestForms → ℕ → ℕ → ℕ
aim_of deciding asked no_test following target = target
aim_of true true (test t ts) following target = target
aim_of false false (test t ts) following target = target
aim_of true false (test t ts) following target = following
aim_of false true (test t ts) following target = following

abbrev mutual
  -- goes to the target where the test is as asked, true or false, and else on after the code
  pub test_code : Tables → ℕ → TestForm → Bool → ℕ → List Instruction
  test_code tables place (asks question strings at) asked target =
      strings_code tables (in_order strings) ++ question_code tables question strings ∷ jump_if asked target ∷ []
  test_code tables place (negation t at) asked target = test_code tables place t (not asked) target
  test_code tables place (all_of t ts at) asked target =
      let following = place + (test_length t + tests_length ts) in
      test_code tables place t (asked_of false asked ts) (aim_of false asked ts following target)
      ++ tests_code tables (place + test_length t) ts false asked following target
  test_code tables place (any_of t ts at) asked target =
      let following = place + (test_length t + tests_length ts) in
      test_code tables place t (asked_of true asked ts) (aim_of true asked ts following target)
      ++ tests_code tables (place + test_length t) ts true asked following target

  -- the tests of a list after its first
  pub tests_code : Tables → ℕ → TestForms → Bool → Bool → ℕ → ℕ → List Instruction
  tests_code tables place no_test deciding asked following target = []
  tests_code tables place (test t ts) deciding asked following target =
      test_code tables place t (asked_of deciding asked ts) (aim_of deciding asked ts following target)
      ++ tests_code tables (place + test_length t) ts deciding asked following target

-- after a block, to the end of the if, where another branch follows
abbrev pub leave_code : BranchForms → ℕ → List Instruction
leave_code no_branch end = []
leave_code (otherwise cs) end = instruction Jump 0 end ∷ []
leave_code (branch t cs at bs) end = instruction Jump 0 end ∷ []

-- a loop around a block: its brackets name each other's places
abbrev pub loop_code : ℕ → ℕ → List Instruction → List Instruction
loop_code each next block = instruction Each 0 next ∷ (block ++ instruction Next 0 each ∷ [])

abbrev mutual
  pub command_code : Tables → ℕ → CommandForm → List Instruction
  command_code tables place (does act string at) = strings_code tables (act_strings act string) ++ act_code tables act ∷ []
  command_code tables place (for_every_part cs at) =
      let block = place + 1 in
      loop_code place (block + commands_length cs) (commands_code tables block cs)
  command_code tables place (choice bs) = branches_code tables place bs (place + branches_length bs)

  pub commands_code : Tables → ℕ → CommandForms → List Instruction
  commands_code tables place no_command = []
  commands_code tables place (command c cs) = command_code tables place c
      ++ commands_code tables (place + command_length c) cs

  -- the branches of an if that ends at a place
  pub branches_code : Tables → ℕ → BranchForms → ℕ → List Instruction
  branches_code tables place no_branch end = []
  branches_code tables place (otherwise cs) end = commands_code tables place cs
  branches_code tables place (branch t cs at bs) end =
      let block = place + test_length t in
      let next = block + commands_length cs + leave_length bs in
      test_code tables place t false next ++ commands_code tables block cs ++ leave_code bs end
      ++ branches_code tables next bs end

-- the version of the format that programs are written in
abbrev pub written_version : ℕ
written_version = 2

-- the program of a script
abbrev pub code_of : CommandForms → Code
code_of script =
    let tables = tables_of script in
    record { version = written_version; variables = length tables.variables; numbers = tables.numbers; strings = tables.strings; instructions = commands_code tables 0 script ++ plain Halt ∷ [] }
