-- The fields of a script's code, and the whole program, are within the limits of one.
use Rattle.std.proofs.Common.{◌≡◌, ℕ, suc, ◌+◌, ◌-◌, ◌<◌, ◌≤◌, ◌^◌, bytes_eq, Bool, true, false, not, List, [], ◌∷◌, map, length, All, refl, arith}
use Rattle.std.proofs.lemmas.List.{length-append}
use Rattle.std.proofs.lemmas.List.Elements.{All-nil, All-cons, All-head, All-tail, All-append}
use Rattle.bytecode_format.specs.declared.instruction.Instruction.{Instruction}
use Rattle.bytecode_format.specs.declared.operation.Operation.{Operation}
use Rattle.bytecode_format.specs.declared.operation.Operation.TheVariants.{Halt, Literal, Variable as VariableOp, Capture as CaptureOp, Jump, JumpIfTrue, JumpIfFalse, Each, Next}
use Rattle.bytecode_format.specs.Operations.{octet_of}
use Rattle.bytecode_format.specs.Spelling.{Fits, IsProgram}
use Rattle.bytecode_format.proofs.Lengths.{length-spelling}
use Rattle.octets.specs.Limits.{max_loops, max_segments, max_variables}
use Rattle.octets.proofs.Once.{place_within, each_once_all}
use Rattle.sieve_check.specs.declared.typed.Segment.{Segment}
use Rattle.sieve_check.specs.declared.typed.Segment.TheVariants.{Text, Variable, Capture}
use Rattle.sieve_check.specs.Acts.{act_strings}
use Rattle.sieve_check.specs.Typed.{Template, in_order, TestForm, asks, negation, all_of, any_of, TestForms, no_test, test, CommandForm, does, for_every_part, choice, CommandForms, no_command, command, BranchForms, no_branch, otherwise, branch}
use Rattle.sieve_check.specs.Bounded.{IsBoundedSegment, IsBoundedString, IsBoundedTest, AreBoundedTests, IsBoundedCommand, AreBoundedCommands, AreBoundedBranches, IsCommandIn, AreCommandsIn, AreBranchesIn, IsBounded}
use Rattle.sieve_check.specs.Extent.{commands_extent}
use Rattle.sieve_compiler.specs.Strings.{commands_strings}
use Rattle.sieve_compiler.specs.Tables.{Tables, tables_of, place_of_string, place_of_variable}
use Rattle.sieve_compiler.specs.Lengths.{test_length, tests_length, leave_length, command_length, commands_length, branches_length}
use Rattle.sieve_compiler.specs.Coding.{instruction, plain, jump_if, push_text, push_segment, join_texts, string_code, strings_code, question_code, act_code, asked_of, aim_of, test_code, tests_code, leave_code, command_code, commands_code, branches_code, code_of}
use Rattle.sieve_compiler.proofs.Acts.{act_fits}
use Rattle.sieve_compiler.proofs.CodeLengths.{commands_code_length}
use Rattle.sieve_compiler.proofs.LengthsFit.{commands_within, table_within}
use Rattle.sieve_compiler.proofs.Questions.{question_fits}
use Rattle.sieve_compiler.proofs.StringsFit.{IsShort, commands_short, strings_few, strings_small}

-- ---- fields

fits_instruction : (operation : Operation) (a c : ℕ) → octet_of operation < 2 ^ 8 → a < 2 ^ 8 → c < 2 ^ 32 → Fits (instruction operation a c)
fits_instruction operation a c op small place = record { op = op; a = small; b = omega arith; c = place }

one : (i : Instruction) → Fits i → All Fits (i ∷ [])
one i fits = All-cons Fits i [] fits (All-nil Fits)

fits_jump_if : (asked : Bool) (target : ℕ) → target < 2 ^ 32 → Fits (jump_if asked target)
fits_jump_if true target place = fits_instruction JumpIfTrue 0 target (omega arith) (omega arith) place
fits_jump_if false target place = fits_instruction JumpIfFalse 0 target (omega arith) (omega arith) place

fits_simple : (i : Instruction) (asked : Bool) (target : ℕ) → Fits i → target < 2 ^ 32 → All Fits (i ∷ jump_if asked target ∷ [])
fits_simple i asked target fits small = All-cons Fits i (jump_if asked target ∷ []) fits (one (jump_if asked target) (fits_jump_if asked target small))

aim_within : (deciding asked : Bool) (ts : TestForms) (following target : ℕ) → following < 2 ^ 32 → target < 2 ^ 32 → aim_of deciding asked ts following target < 2 ^ 32
aim_within deciding asked no_test following target b t = t
aim_within true true (test u us) following target b t = t
aim_within false false (test u us) following target b t = t
aim_within true false (test u us) following target b t = b
aim_within false true (test u us) following target b t = b

-- the places of all tables are numbers of 32 bits
abbrev pub AreFew : Tables → Type 0
AreFew tables = (length tables.numbers < 2 ^ 32) × (length tables.strings < 2 ^ 32) × (length tables.variables < 2 ^ 32)

fits_text : (tables : Tables) (s : List ℕ) → AreFew tables → Fits (push_text tables s)
fits_text tables s few = fits_instruction Literal 0 (place_of_string tables s) (omega arith) (omega arith) (omega (arith, place_within bytes_eq tables.strings s, few.1))

fits_segment : (tables : Tables) (segment : Segment) → AreFew tables → IsBoundedSegment segment → Fits (push_segment tables segment)
fits_segment tables (Text octets) few b = fits_text tables octets few
fits_segment tables (Variable name) few b = fits_instruction VariableOp 0 (place_of_variable tables name) (omega arith) (omega arith) (omega (arith, place_within bytes_eq tables.variables name, few.2))
fits_segment tables (Capture n) few b = fits_instruction CaptureOp n 0 (omega arith) (omega (arith, b)) (omega arith)

fits_segments : (tables : Tables) (segments : Template) → AreFew tables → All IsBoundedSegment segments → All Fits (map (push_segment tables) segments)
fits_segments tables [] few b = All-nil Fits
fits_segments tables (segment ∷ segments) few b =
    All-cons Fits (push_segment tables segment) (map (push_segment tables) segments) (fits_segment tables segment few (All-head IsBoundedSegment segment segments b)) (fits_segments tables segments few (All-tail IsBoundedSegment segment segments b))

fits_join : (texts : ℕ) → texts ≤ max_segments → Fits (join_texts texts)
fits_join texts few = record { op = omega arith; a = omega arith; b = omega (arith, few); c = omega arith }

fits_string : (tables : Tables) (s : Template) → AreFew tables → IsBoundedString s → All Fits (string_code tables s)
fits_string tables [] few b = one (push_text tables []) (fits_text tables [] few)
fits_string tables (segment ∷ []) few b = one (push_segment tables segment) (fits_segment tables segment few (All-head IsBoundedSegment segment [] b.segments))
fits_string tables (first ∷ other ∷ more) few b =
    All-append Fits (map (push_segment tables) (first ∷ other ∷ more)) (join_texts (length (first ∷ other ∷ more)) ∷ []) (fits_segments tables (first ∷ other ∷ more) few b.segments) (one (join_texts (length (first ∷ other ∷ more))) (fits_join (length (first ∷ other ∷ more)) b.few))

fits_strings : (tables : Tables) (ss : List Template) → AreFew tables → All IsBoundedString ss → All Fits (strings_code tables ss)
fits_strings tables [] few b = All-nil Fits
fits_strings tables (s ∷ ss) few b = All-append Fits (string_code tables s) (strings_code tables ss) (fits_string tables s few (All-head IsBoundedString s ss b)) (fits_strings tables ss few (All-tail IsBoundedString s ss b))

mutual
  fits_test : (tables : Tables) (place : ℕ) (t : TestForm) (asked : Bool) (target : ℕ) → AreFew tables → IsBoundedTest t → place + test_length t < 2 ^ 32 → target < 2 ^ 32 → All Fits (test_code tables place t asked target)
  fits_test tables place (asks question strings at) asked target few b room small =
      All-append Fits _ _ (fits_strings tables (in_order strings) few b.bounded) (fits_simple (question_code tables question strings) asked target (question_fits tables question strings b few.0) small)
  fits_test tables place (negation t at) asked target few b room small = fits_test tables place t (not asked) target few b room small
  fits_test tables place (all_of t ts at) asked target few b room small =
      let following : ℕ = place + (test_length t + tests_length ts) in
      All-append Fits _ _ (fits_test tables place t (asked_of false asked ts) (aim_of false asked ts following target) few b.0 (omega (arith, room)) (aim_within false asked ts following target room small))
      (fits_tests tables (place + test_length t) ts false asked following target few b.1 (omega (arith, room)) room small)
  fits_test tables place (any_of t ts at) asked target few b room small =
      let following : ℕ = place + (test_length t + tests_length ts) in
      All-append Fits _ _ (fits_test tables place t (asked_of true asked ts) (aim_of true asked ts following target) few b.0 (omega (arith, room)) (aim_within true asked ts following target room small))
      (fits_tests tables (place + test_length t) ts true asked following target few b.1 (omega (arith, room)) room small)

  fits_tests : (tables : Tables) (place : ℕ) (ts : TestForms) (deciding asked : Bool) (following target : ℕ) → AreFew tables → AreBoundedTests ts → place + tests_length ts < 2 ^ 32 → following < 2 ^ 32 → target < 2 ^ 32 → All Fits (tests_code tables place ts deciding asked following target)
  fits_tests tables place no_test deciding asked following target few b room inside small = All-nil Fits
  fits_tests tables place (test t ts) deciding asked following target few b room inside small =
      All-append Fits _ _ (fits_test tables place t (asked_of deciding asked ts) (aim_of deciding asked ts following target) few b.0 (omega (arith, room)) (aim_within deciding asked ts following target inside small))
      (fits_tests tables (place + test_length t) ts deciding asked following target few b.1 (omega (arith, room)) inside small)

fits_leave : (bs : BranchForms) (end : ℕ) → end < 2 ^ 32 → All Fits (leave_code bs end)
fits_leave no_branch end small = All-nil Fits
fits_leave (otherwise cs) end small = one (instruction Jump 0 end) (fits_instruction Jump 0 end (omega arith) (omega arith) small)
fits_leave (branch t cs at bs) end small = one (instruction Jump 0 end) (fits_instruction Jump 0 end (omega arith) (omega arith) small)

-- so many loops are open around
mutual
  fits_command : (tables : Tables) (place loops : ℕ) (c : CommandForm) → AreFew tables → IsBoundedCommand c → loops ≤ max_loops → IsCommandIn loops c → place + command_length c < 2 ^ 32 → All Fits (command_code tables place c)
  fits_command tables place loops (does act string at) few b le in_loops room =
      All-append Fits _ _ (fits_strings tables (act_strings act string) few b.1) (one (act_code tables act) (act_fits tables act b.0 (omega (arith, le, in_loops)) few.2))
  fits_command tables place loops (for_every_part cs at) few b le in_loops room =
      let next : ℕ = place + 1 + commands_length cs in
      All-cons Fits (instruction Each 0 next) _ (fits_instruction Each 0 next (omega arith) (omega arith) (omega (arith, room)))
      (All-append Fits _ _ (fits_commands tables (place + 1) (suc loops) cs few b (omega (arith, in_loops.0)) in_loops.1 (omega (arith, room))) (one (instruction Next 0 place) (fits_instruction Next 0 place (omega arith) (omega arith) (omega (arith, room)))))
  fits_command tables place loops (choice bs) few b le in_loops room = fits_branches tables place loops bs (place + branches_length bs) few b le in_loops room room

  fits_commands : (tables : Tables) (place loops : ℕ) (cs : CommandForms) → AreFew tables → AreBoundedCommands cs → loops ≤ max_loops → AreCommandsIn loops cs → place + commands_length cs < 2 ^ 32 → All Fits (commands_code tables place cs)
  fits_commands tables place loops no_command few b le in_loops room = All-nil Fits
  fits_commands tables place loops (command c cs) few b le in_loops room =
      All-append Fits _ _ (fits_command tables place loops c few b.0 le in_loops.0 (omega (arith, room))) (fits_commands tables (place + command_length c) loops cs few b.1 le in_loops.1 (omega (arith, room)))

  fits_branches : (tables : Tables) (place loops : ℕ) (bs : BranchForms) (end : ℕ) → AreFew tables → AreBoundedBranches bs → loops ≤ max_loops → AreBranchesIn loops bs → place + branches_length bs < 2 ^ 32 → end < 2 ^ 32 → All Fits (branches_code tables place bs end)
  fits_branches tables place loops no_branch end few b le in_loops room small = All-nil Fits
  fits_branches tables place loops (otherwise cs) end few b le in_loops room small = fits_commands tables place loops cs few b le in_loops room
  fits_branches tables place loops (branch t cs at bs) end few b le in_loops room small =
      let block : ℕ = place + test_length t in
      let next : ℕ = block + commands_length cs + leave_length bs in
      All-append Fits _ _ (All-append Fits _ _ (All-append Fits _ _ (fits_test tables place t false next few b.0 (omega (arith, room)) (omega (arith, room))) (fits_commands tables block loops cs few b.1 le in_loops.1 (omega (arith, room)))) (fits_leave bs end small))
      (fits_branches tables next loops bs end few b.2 le in_loops.2 (omega (arith, room)) small)

-- ---- the program

-- how many instructions the program has
pub length_code : (cs : CommandForms) → length (code_of cs).instructions ≡ commands_length cs + 1
length_code cs = omega (arith, length-append (commands_code (tables_of cs) 0 cs) (plain Halt ∷ []), commands_code_length (tables_of cs) cs 0)

-- the code is a program, where its numbers are those of 64 bits
pub is_program : (cs : CommandForms) → IsBounded cs → All (λ n. n < 2 ^ 64) (tables_of cs).numbers → IsProgram (code_of cs)
is_program cs short numbers =
    let commands : commands_length cs ≤ commands_extent cs - 1 = commands_within cs short.commands in
    let numbers_few : length (tables_of cs).numbers ≤ commands_length cs = table_within cs in
    let texts : length (tables_of cs).strings ≤ commands_length cs = strings_few cs in
    let variables : length (tables_of cs).variables ≤ max_variables = short.variables in
    let few : AreFew (tables_of cs) = (omega (arith, commands, numbers_few, short.octets), omega (arith, commands, texts, short.octets), omega (arith, variables)) in
    record {
      version = refl;
      variables = variables;
      numbers = omega (arith, commands, numbers_few, short.octets);
      each_number = numbers;
      strings = omega (arith, commands, texts, short.octets);
      each_string = each_once_all bytes_eq IsShort (commands_strings cs) (commands_short cs short.commands);
      instructions = omega (arith, length_code cs, commands, short.octets);
      each_instruction = All-append Fits _ _ (fits_commands (tables_of cs) 0 0 cs few short.commands (omega arith) short.loops (omega (arith, commands, short.octets))) (one (plain Halt) (fits_instruction Halt 0 0 (omega arith) (omega arith) (omega arith)));
      octets = omega (arith, length-spelling (code_of cs), length_code cs, commands, numbers_few, strings_small cs, short.octets);
    }
