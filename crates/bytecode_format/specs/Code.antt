-- What a program is made of, and the versions of the format.
use Rattle.std.specs.Prelude.{ℕ, List}
use Rattle.bytecode_format.specs.declared.instruction.Instruction.{Instruction}

-- what a program says, without where it lies in memory
pub record Code : Type 0 where
  pub version : ℕ
  pub variables : ℕ
  pub numbers : List ℕ
  pub strings : List (List ℕ)
  pub instructions : List Instruction

-- the versions of the format: all operations are there in the second, and all but Take in the first
abbrev pub version_one : ℕ
version_one = 1

abbrev pub version_two : ℕ
version_two = 2

-- that in which scripts are compiled
abbrev pub latest_version : ℕ
latest_version = version_two
