-- Private: reading a program from left to right, as the readers do.
-- A field is a value and the octets after it; None where the octets are no such field.
use Rattle.std.specs.Prelude.{◌≡◌, ℕ, zero, suc, List, [], ◌∷◌, length, take, drop, Option, Some, None, Result, Ok, Err, nat_lt, nat_eq, ◌==◌, ◌||◌, codes, if◌then◌else◌}
use Rattle.std.specs.Int.{Width, w16, w32, w64, byte_len, from_be_bytes}
use Rattle.std.specs.Cmp.Lexicographic.{pointwise}
use Rattle.octets.specs.Limits.{max_program, max_instructions, max_variables, max_string}
use Rattle.bytecode_format.specs.declared.error.FormatError.{FormatError}
use Rattle.bytecode_format.specs.declared.error.FormatError.TheVariants.{Memory, Spelling}
use Rattle.bytecode_format.specs.declared.instruction.Instruction.{Instruction}
use Rattle.bytecode_format.specs.Code.{Code}
use Rattle.bytecode_format.specs.Spelling.{is_version}

infixl 10 ◌>>=◌
abbrev pub ◌>>=◌ : {A B : Type 0} → Option A → (A → Option B) → Option B
(Some x) >>= f = f x
None >>= f = None

-- What a function returned, seen by view, is what reading gives, unless memory ran out.
abbrev pub Fails : {Y : Type 0} → FormatError → Option Y → Type 0
Fails Memory read = Unit {0}
Fails Spelling read = read ≡ None

abbrev pub Gives : {X Y : Type 0} → (X → Y) → Result X FormatError → Option Y → Type 0
Gives view (Ok x) read = read ≡ Some (view x)
Gives view (Err e) read = Fails e read

-- the octets after a given text
unfoldable pub after : List ℕ → List ℕ → Option (List ℕ)
after text octets = if pointwise nat_eq (take (length text) octets) text then Some (drop (length text) octets) else None

abbrev pub octet_at : List ℕ → Option (ℕ × List ℕ)
octet_at [] = None
octet_at (x ∷ rest) = Some (x, rest)

abbrev pub number_at : Width → List ℕ → Option (ℕ × List ℕ)
number_at w octets = if nat_lt (length octets) (byte_len w) then None else Some (from_be_bytes w (take (byte_len w) octets), drop (byte_len w) octets)

unfoldable pub string_at : List ℕ → Option (List ℕ × List ℕ)
string_at octets = do
  n ← number_at w16 octets
  if nat_lt max_string n.0 || nat_lt (length n.1) n.0 then None else Some (take n.0 n.1, drop n.0 n.1)

unfoldable pub instruction_at : List ℕ → Option (Instruction × List ℕ)
instruction_at octets = do
  op ← octet_at octets
  a ← octet_at op.1
  b ← number_at w16 a.1
  c ← number_at w32 b.1
  Some (record { op = op.0; a = a.0; b = b.0; c = c.0 }, c.1)

-- that many items, one after the other
unfoldable pub many_at : {A : Type 0} → (List ℕ → Option (A × List ℕ)) → ℕ → List ℕ → Option (List A × List ℕ)
many_at item zero octets = Some ([], octets)
many_at item (suc n) octets = do
  first ← item octets
  others ← many_at item n first.1
  Some (first.0 ∷ others.0, others.1)

-- the counts of a program's tables
pub record Counts : Type 0 where
  pub variables : ℕ
  pub numbers : ℕ
  pub strings : ℕ
  pub instructions : ℕ

unfoldable pub counts_at : List ℕ → Option (Counts × List ℕ)
counts_at octets = do
  variables ← number_at w16 octets
  numbers ← number_at w16 variables.1
  strings ← number_at w16 numbers.1
  instructions ← number_at w32 strings.1
  if nat_lt max_variables variables.0 || nat_lt max_instructions instructions.0
      then None
      else Some (record { variables = variables.0; numbers = numbers.0; strings = strings.0; instructions = instructions.0 }, instructions.1)

-- the name of the format
abbrev pub opening : List ℕ
opening = codes "SVBC"

-- an octet that is a version
unfoldable pub version_at : List ℕ → Option (ℕ × List ℕ)
version_at octets = do
  version ← octet_at octets
  if is_version version.0 then Some version else None

-- the tables of a program of this version, which are all that is left
unfoldable pub tables_at : ℕ → List ℕ → Option Code
tables_at version octets =
    counts_at octets
    >>= λ counts. many_at (number_at w64) counts.0.numbers counts.1
    >>= λ numbers. many_at string_at counts.0.strings numbers.1
    >>= λ strings. many_at instruction_at counts.0.instructions strings.1
    >>= λ instructions. if length instructions.1 == 0
    then Some (record { version = version; variables = counts.0.variables; numbers = numbers.0; strings = strings.0; instructions = instructions.0 })
    else None

-- all of the octets
unfoldable pub program_at : List ℕ → Option Code
program_at octets =
    if nat_lt max_program (length octets)
    then None
    else after opening octets
    >>= λ versioned. version_at versioned
    >>= λ version. tables_at version.0 version.1
