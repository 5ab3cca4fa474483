-- What stands for the number of c: labels name the places of instructions, and strings of lines are
-- those of the table.
use Rattle.std.specs.Prelude.{ℕ, suc, ◌^◌, nat_lt, List, [], ◌∷◌, ◌++◌, Option, Some, None, is_some, Result, Ok, Err, bytes_eq, if◌then◌else◌}
use Rattle.octets.specs.Once.{found_in, with_one}
use Rattle.bytecode_format.specs.declared.instruction.Instruction.{Instruction}
use Rattle.bytecode_listing.specs.declared.drafts.Target.{Target}
use Rattle.bytecode_listing.specs.declared.drafts.Target.TheVariants.{Number, Name, Quoted}
use Rattle.bytecode_listing.specs.declared.drafts.Draft.{Draft}
use Rattle.bytecode_listing.specs.declared.drafts.Line.{Line}
use Rattle.bytecode_listing.specs.declared.drafts.Line.TheVariants.{Label, Step}

infixl 10 ◌>>=◌
abbrev pub ◌>>=◌ : {A B : Type 0} → Result A ℕ → (A → Result B ℕ) → Result B ℕ
(Ok x) >>= f = f x
(Err left) >>= f = Err left

-- how many instructions are among lines
abbrev pub count : List Line → ℕ
count [] = 0
count (Label name left ∷ lines) = count lines
count (Step draft ∷ lines) = suc (count lines)

-- the place of the first label with this name: that of the first instruction after it, or the one
-- after the last instruction; so many instructions stand before these lines
abbrev pub place_from : ℕ → List Line → List ℕ → Option ℕ
place_from place [] name = None
place_from place (Label label left ∷ lines) name =
    if bytes_eq label name then Some place else place_from place lines name
place_from place (Step draft ∷ lines) name = place_from (suc place) lines name

abbrev pub place_of : List Line → List ℕ → Option ℕ
place_of lines name = place_from 0 lines name

-- the first label whose name one before it has: how many octets are left where that name stands;
-- other lines stand before these
abbrev pub double_after : List Line → List Line → Option ℕ
double_after before [] = None
double_after before (Label name left ∷ lines) =
    if is_some (place_of before name)
    then Some left
    else double_after (before ++ Label name left ∷ []) lines
double_after before (Step draft ∷ lines) = double_after (before ++ Step draft ∷ []) lines

-- the table with the string that stands for the number of c, if one does, unless the table has it
abbrev pub with_target : List (List ℕ) → Target → List (List ℕ)
with_target table (Number n) = table
with_target table (Name name left) = table
with_target table (Quoted text left) = with_one bytes_eq table text

-- with the string that stands in a line
abbrev pub with_line : List (List ℕ) → Line → List (List ℕ)
with_line table (Label name left) = table
with_line table (Step draft) = with_target table draft.c

-- a program's strings: those of its table, and then those of its lines that it doesn't have yet
abbrev pub strings_in : List (List ℕ) → List Line → List (List ℕ)
strings_in table [] = table
strings_in table (line ∷ lines) = strings_in (with_line table line) lines

-- a place, if there is one and 32 bits hold it; it is looked up where so many octets are left
abbrev pub looked_up : Option ℕ → ℕ → Result ℕ ℕ
looked_up None left = Err left
looked_up (Some place) left = if nat_lt place (2 ^ 32) then Ok place else Err left

-- the number that c is, with a program's strings and lines
abbrev pub c_of : List (List ℕ) → List Line → Target → Result ℕ ℕ
c_of strings lines (Number n) = Ok n
c_of strings lines (Name name left) = looked_up (place_of lines name) left
c_of strings lines (Quoted text left) = looked_up (found_in bytes_eq strings text) left

-- a draft with this c
abbrev pub with_c : Draft → ℕ → Instruction
with_c draft c = record { op = draft.op; a = draft.a; b = draft.b; c = c }

-- the instruction that a draft is
abbrev pub instruction_of : List (List ℕ) → List Line → Draft → Result Instruction ℕ
instruction_of strings lines draft = c_of strings lines draft.c >>= λ c. Ok (with_c draft c)

-- the instructions of some lines; the labels are those of all
abbrev pub instructions_of : List (List ℕ) → List Line → List Line → Result (List Instruction) ℕ
instructions_of strings all [] = Ok []
instructions_of strings all (Label name left ∷ lines) = instructions_of strings all lines
instructions_of strings all (Step draft ∷ lines) = do
  first ← instruction_of strings all draft
  others ← instructions_of strings all lines
  Ok (first ∷ others)

-- what is read, unless a label is there twice
abbrev pub unless_double : {A : Type 0} → Option ℕ → Result A ℕ → Result A ℕ
unless_double None read = read
unless_double (Some left) read = Err left

-- the instructions of lines; the fault is the first label that is there again, and where there is
-- none the first name that is no label
abbrev pub instructions_in : List (List ℕ) → List Line → Result (List Instruction) ℕ
instructions_in strings lines =
    unless_double (double_after [] lines) (instructions_of strings lines lines)

-- the strings and the instructions of a program
abbrev pub resolved : List (List ℕ) → List Line → Result (List (List ℕ) × List Instruction) ℕ
resolved table lines =
    instructions_in (strings_in table lines) lines >>= λ instructions.
    Ok (strings_in table lines, instructions)
