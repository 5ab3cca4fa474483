-- Private: how a coder puts code.
use Rattle.std.specs.Prelude.{◌≡◌, List, ◌++◌}
use Rattle.bytecode_format.specs.declared.instruction.Instruction.{Instruction}
use Rattle.sieve_compiler.specs.declared.coder.Coder.{Coder}

-- the code stands after the instructions that were there, and the tables are the same
pub record Puts (before after : Coder) (code : List Instruction) : Type 0 where
  pub tables : after.tables.now ≡ before.tables.now
  pub instructions : after.instructions.items ≡ before.instructions.items ++ code
