use Rattle.std.proofs.Common.{ℕ, ◌<◌, get_or}
use Rattle.bytecode_format.specs.declared.instruction.Instruction.{Instruction}
use Rattle.bytecode_format.specs.Spelling.{Fits}
use Rattle.bytecode_format.proofs.building.instructions_fit.Given as goal

abbrev pub invariant-table : goal.invariant-table
invariant-table l = (k : ℕ) (d : Instruction) → k < l.i-index → Fits (get_or l.instructions k d)
