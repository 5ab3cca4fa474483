-- Programs that charge their whole budget, and the messages on which they do.
use Rattle.std.specs.Prelude.{◌≡◌, ℕ, suc, ◌+◌, Bool, true, false, Some, length, slice_get}
use Rattle.bytecode_format.specs.declared.instruction.Instruction.{Instruction}
use Rattle.bytecode_format.specs.declared.operation.Operation.{Operation}
use Rattle.bytecode_format.specs.declared.operation.Operation.TheVariants.{Halt, Literal, Variable, Capture, Join, Set, Not, Jump, JumpIfTrue, JumpIfFalse, Keep, Discard, File, Store, Each, Next, Break, Take, Test}
use Rattle.bytecode_format.specs.Operations.{operation_of}
use Rattle.bytecode_format.specs.Code.{Code}
use Rattle.mime_decode.specs.Mail.{Mail, Part}

-- the tree of the message is a single chain: of each part all later parts are below it
abbrev pub IsChain : Mail → Type 0
IsChain mail = (place : ℕ) (part : Part) → slice_get mail.parts place ≡ Some part
    → suc (place + part.below) ≡ length mail.parts

-- an operation that runs once in each turn, and has texts of the program alone
abbrev pub is_plain : Operation → Bool
is_plain Halt = true
is_plain Literal = true
is_plain Variable = false
is_plain Capture = false
is_plain Join = true
is_plain Set = true
is_plain (Test test) = false
is_plain Not = false
is_plain Jump = false
is_plain JumpIfTrue = false
is_plain JumpIfFalse = false
is_plain Keep = true
is_plain Discard = true
is_plain File = true
is_plain Store = true
is_plain Each = true
is_plain Next = true
is_plain Break = false
is_plain Take = false

-- each operation of the program is one of these, and Halt stands once
pub record IsPlain (code : Code) : Type 0 where
  pub operations : (place : ℕ) (i : Instruction) (o : Operation) → slice_get code.instructions place ≡ Some i
      → operation_of i.op ≡ Some o → is_plain o ≡ true
  pub one_end : (place other : ℕ) (i j : Instruction) → slice_get code.instructions place ≡ Some i
      → slice_get code.instructions other ≡ Some j → operation_of i.op ≡ Some Halt → operation_of j.op ≡ Some Halt
      → place ≡ other
