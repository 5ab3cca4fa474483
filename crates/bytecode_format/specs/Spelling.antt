-- The octets of a program, and what a program is. All numbers are big-endian.
use Rattle.std.specs.Prelude.{◌≡◌, ◌==◌, ◌||◌, ℕ, Bool, true, ◌^◌, ◌<◌, ◌≤◌, List, [], ◌∷◌, ◌++◌, length, All, codes}
use Rattle.std.specs.List.{flat_map}
use Rattle.std.specs.Int.{w16, w32, w64, to_be_bytes}
use Rattle.octets.specs.Limits.{max_program, max_instructions, max_variables, max_string}
use Rattle.bytecode_format.specs.declared.instruction.Instruction.{Instruction}
use Rattle.bytecode_format.specs.Code.{Code, version_one, version_two}

-- an octet, numbers of two, four and eight octets
abbrev pub octet : ℕ → List ℕ
octet n = n ∷ []

abbrev pub two_octets : ℕ → List ℕ
two_octets n = to_be_bytes w16 n

abbrev pub four_octets : ℕ → List ℕ
four_octets n = to_be_bytes w32 n

abbrev pub eight_octets : ℕ → List ℕ
eight_octets n = to_be_bytes w64 n

-- a string: two octets of length, and its octets
abbrev pub string : List ℕ → List ℕ
string text = two_octets (length text) ++ text

-- an instruction: the operation, a, two octets of b, four octets of c
abbrev pub instruction : Instruction → List ℕ
instruction i = octet i.op ++ octet i.a ++ two_octets i.b ++ four_octets i.c

-- what stands before the tables: SVBC, the version, and the four counts
abbrev pub heading : Code → List ℕ
heading code =
    codes "SVBC"
    ++ octet code.version
    ++ two_octets code.variables
    ++ two_octets (length code.numbers)
    ++ two_octets (length code.strings)
    ++ four_octets (length code.instructions)

-- the one text of a program
abbrev pub spelling : Code → List ℕ
spelling code = heading code ++ flat_map eight_octets code.numbers ++ flat_map string code.strings
    ++ flat_map instruction code.instructions

-- the fields of an instruction fit their octets
pub record Fits (i : Instruction) : Type 0 where
  pub op : i.op < 2 ^ 8
  pub a : i.a < 2 ^ 8
  pub b : i.b < 2 ^ 16
  pub c : i.c < 2 ^ 32

-- the format has this version
abbrev pub is_version : ℕ → Bool
is_version n = (n == version_one) || (n == version_two)

-- the limits of a program
pub record IsProgram (code : Code) : Type 0 where
  pub version : is_version code.version ≡ true
  pub variables : code.variables ≤ max_variables
  pub numbers : length code.numbers < 2 ^ 16
  pub each_number : All (λ n. n < 2 ^ 64) code.numbers
  pub strings : length code.strings < 2 ^ 16
  pub each_string : All (λ text. length text ≤ max_string) code.strings
  pub instructions : length code.instructions ≤ max_instructions
  pub each_instruction : All Fits code.instructions
  pub octets : length (spelling code) ≤ max_program
