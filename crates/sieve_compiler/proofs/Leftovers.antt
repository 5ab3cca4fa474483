-- What a loop of the second pass has left to put.
use Rattle.std.proofs.Common.{◌≡◌, ℕ, List, ◌++◌, length}
use Rattle.bytecode_format.specs.declared.instruction.Instruction.{Instruction}
use Rattle.sieve_compiler.specs.Tables.{Tables}
use Rattle.sieve_compiler.specs.declared.coder.Coder.{Coder}

-- what is left, put after what stands there now, gives what all of it gives after what stood there at first
pub record Left (start now : Coder) (rest all : Tables → ℕ → List Instruction) : Type 0 where
  pub tables : now.tables.now ≡ start.tables.now
  pub code : now.instructions.items ++ rest now.tables.now (length now.instructions.items) ≡ start.instructions.items ++ all start.tables.now (length start.instructions.items)
