-- The code of small scripts with loops, by computation.
use Rattle.std.proofs.Common.{◌≡◌, ℕ, List, [], ◌∷◌, refl, length}
use Rattle.std.specs.Prelude.{codes}
use Rattle.bytecode_format.specs.declared.instruction.Instruction.{Instruction}
use Rattle.bytecode_format.specs.declared.operation.Operation.TheVariants.{Halt, Literal, Keep, Store, Each, Next, Break}
use Rattle.bytecode_format.specs.Code.{Code}
use Rattle.bytecode_format.specs.Spelling.{spelling}
use Rattle.sieve_check.specs.declared.typed.Act.TheVariants as act
use Rattle.sieve_check.specs.declared.typed.Segment.TheVariants.{Text}
use Rattle.sieve_check.specs.Typed.{Template, does, for_every_part, CommandForms, no_command, command}
use Rattle.sieve_compiler.specs.Coding.{instruction, plain, code_of}

abbrev program : List (List ℕ) → List Instruction → Code
program strings instructions = record { version = 2; variables = 0; numbers = []; strings = strings; instructions = instructions }

abbrev folder : List ℕ → Template
folder name = Text name ∷ []

-- foreverypart { store "att"; }
abbrev storing : CommandForms
storing = command (for_every_part (command (does act.Store (folder (codes "att")) 2) no_command) 0) no_command

storing_code : code_of storing ≡ program (codes "att" ∷ []) (instruction Each 0 3 ∷ instruction Literal 0 0 ∷ plain Store ∷ instruction Next 0 0 ∷ plain Halt ∷ [])
storing_code = refl

storing_octets : length (spelling (code_of storing)) ≡ 60
storing_octets = refl

-- foreverypart { foreverypart { keep; } }
abbrev nested : CommandForms
nested = command (for_every_part (command (for_every_part (command (does act.Keep [] 4) no_command) 2) no_command) 0) no_command

nested_code : code_of nested ≡ program [] (instruction Each 0 4 ∷ instruction Each 0 3 ∷ plain Keep ∷ instruction Next 0 1 ∷ instruction Next 0 0 ∷ plain Halt ∷ [])
nested_code = refl

nested_octets : length (spelling (code_of nested)) ≡ 63
nested_octets = refl

-- foreverypart { foreverypart { break; } store "s"; }, with so many loops that are left
abbrev leaving : ℕ → CommandForms
leaving loops = command (for_every_part (command (for_every_part (command (does (act.Leave loops) [] 4) no_command) 2) (command (does act.Store (folder (codes "s")) 7) no_command)) 0) no_command

abbrev leaving_code : ℕ → List Instruction
leaving_code loops = instruction Each 0 6 ∷ instruction Each 0 3 ∷ instruction Break loops 0 ∷ instruction Next 0 1 ∷ instruction Literal 0 0 ∷ plain Store ∷ instruction Next 0 0 ∷ plain Halt ∷ []

leaving_one : code_of (leaving 1) ≡ program (codes "s" ∷ []) (leaving_code 1)
leaving_one = refl

leaving_both : code_of (leaving 2) ≡ program (codes "s" ∷ []) (leaving_code 2)
leaving_both = refl
