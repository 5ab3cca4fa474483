-- What it is that an instruction of a script's code keeps the rules at its place, and where its jumps may lead.
use Rattle.std.proofs.Common.{◌≡◌, ℕ, zero, suc, ◌+◌, ◌<◌, ◌≤◌, Bool, true, false, not, cond, ◌&&◌, ◌==◌, List, [], ◌∷◌, ◌++◌, Option, Some, None, unwrap_or, slice_get, length, min, sum, refl, subst, arith}
use Rattle.bytecode_format.specs.declared.instruction.Instruction.{Instruction}
use Rattle.bytecode_format.specs.declared.operation.Operation.{Operation}
use Rattle.bytecode_format.specs.declared.operation.Operation.TheVariants.{Literal, Variable as VariableOp, Capture as CaptureOp, Join, Each, Next, Break, Test}
use Rattle.bytecode_format.specs.Operations.{operation_of}
use Rattle.std.specs.Option.{option_and_then, option_map_or}
use Rattle.bytecode_format.specs.Code.{Code}
use Rattle.bytecode_verifier.specs.declared.row.Table.{Table}
use Rattle.bytecode_verifier.specs.declared.row.Table.TheVariants.{Variables, Numbers, Strings}
use Rattle.bytecode_verifier.specs.Rows.{row_of, row_in_version, row_named, is_well_formed, is_jump}
use Rattle.bytecode_verifier.specs.Nests.{next_at, leads}
use Rattle.bytecode_verifier.proofs.Open.{inside}
use Rattle.bytecode_verifier.specs.Shape.{Entries, Texts, take_texts, entries_after}
use Rattle.bytecode_verifier.specs.declared.shape.Entry.TheVariants.{Truth, Text}
use Rattle.octets.specs.Limits.{max_loops, max_string, max_value}
use Rattle.sieve_compiler.specs.Tables.{Tables}
use Rattle.sieve_compiler.specs.Coding.{written_version}

-- the string at a place of the table, empty where there is none
abbrev string_at : Tables → ℕ → List ℕ
string_at tables place = unwrap_or (slice_get tables.strings place) []

-- texts as one
abbrev pub joined_text : Texts → Entries
joined_text parts = Text (min (sum parts.texts) max_string) ∷ parts.below

-- programs are written in the version that has every operation
pub row_written : (o : Operation) → row_in_version written_version o ≡ Some (row_of o)
row_written o = go (row_of o).since_two
  where
    go : (since_two : Bool) → cond (since_two && not (written_version == 2)) None (Some (row_of o)) ≡ Some (row_of o)
    go true = refl
    go false = refl

-- the operation opens a loop or closes one
abbrev pub is_bracket : Option Operation → Bool
is_bracket (Some Each) = true
is_bracket (Some Next) = true
is_bracket _ = false

-- the entries that an operation of a script's code leaves: a text goes on those that are there, a test leaves its truth value alone
abbrev pub leaves : Tables → Option Operation → Instruction → Entries → Entries
leaves tables (Some Literal) i entries = Text (length (string_at tables i.c)) ∷ entries
leaves tables (Some VariableOp) i entries = Text max_value ∷ entries
leaves tables (Some CaptureOp) i entries = Text max_value ∷ entries
leaves tables (Some Join) i entries = option_map_or joined_text (take_texts i.b entries) []
leaves tables (Some (Test test)) i entries = Truth ∷ []
leaves tables _ i entries = []

abbrev pub left_by : Tables → Option Instruction → Entries → Entries
left_by tables None entries = []
left_by tables (Some i) entries = leaves tables (operation_of i.op) i entries

-- the entries before an instruction
abbrev pub standing : Tables → List Instruction → ℕ → Entries
standing tables all zero = []
standing tables all (suc place) = left_by tables (slice_get all place) (standing tables all place)

-- where a jump leads: forward, to no later place than the last, and to where no entries are and the same loops are open
pub record IsAimed (all : List Instruction) (tables : Tables) (last place target : ℕ) : Type 0 where
  pub forward : place < target
  pub within : target ≤ last
  pub between : standing tables all target ≡ []
  pub same : inside all target ≡ inside all place

-- the table has an entry at the place
abbrev pub IsInTable : Tables → Option Table → ℕ → Type 0
IsInTable tables None place = Unit {0}
IsInTable tables (Some Variables) place = (s : List ℕ) × (slice_get tables.variables place ≡ Some s)
IsInTable tables (Some Numbers) place = (n : ℕ) × (slice_get tables.numbers place ≡ Some n)
IsInTable tables (Some Strings) place = (s : List ℕ) × (slice_get tables.strings place ≡ Some s)

-- the index of an operation is one of its table
abbrev pub IsKnown : Tables → Option Operation → Instruction → Type 0
IsKnown tables None i = Unit {0}
IsKnown tables (Some o) i = IsInTable tables (row_of o).index i.c

-- there is a current part, where one is needed: it is that of a loop
abbrev pub IsInside : Bool → ℕ → Type 0
IsInside true loops = 0 < loops
IsInside false loops = Unit {0}

-- a loop's brackets name each other, and there is room for it; no more loops are left than are open; the current part is that of a loop
abbrev pub KeepsLoops : List Instruction → ℕ → Option Operation → Instruction → Type 0
KeepsLoops all place None i = Unit {0}
KeepsLoops all place (Some Each) i = (leads (next_at all place) i.c ≡ true) × (length (inside all place) < max_loops)
KeepsLoops all place (Some Next) i = leads (next_at all i.c) place ≡ true
KeepsLoops all place (Some Break) i = i.a ≤ length (inside all place)
KeepsLoops all place (Some o) i = IsInside (row_of o).needs_part (length (inside all place))

-- the operation takes these entries, and leaves those
abbrev pub TurnsInto : Tables → Option Operation → Instruction → Entries → Entries → Type 0
TurnsInto tables o i before after = (code : Code) → code.strings ≡ tables.strings → option_and_then (λ (operation : Operation). entries_after code operation i before) o ≡ Some after

-- the instruction keeps the rules at the place
pub record IsSound (all : List Instruction) (tables : Tables) (last place : ℕ) (i : Instruction) : Type 0 where
  pub form : is_well_formed (row_named written_version i.op) i ≡ true
  pub loops : KeepsLoops all place (operation_of i.op) i
  pub index : IsKnown tables (operation_of i.op) i
  pub jump : is_jump (row_named written_version i.op) ≡ true → IsAimed all tables last place i.c
  pub stack : TurnsInto tables (operation_of i.op) i (standing tables all place) (leaves tables (operation_of i.op) i (standing tables all place))

module _ (all : List Instruction) (tables : Tables) (last : ℕ) where
  -- all instructions of a piece keep the rules, from a place on
  abbrev pub AreSound : ℕ → List Instruction → Type 0
  AreSound place [] = Unit {0}
  AreSound place (i ∷ piece) = IsSound all tables last place i × AreSound (suc place) piece

  pub sound_both : (a b : List Instruction) (place n : ℕ) → length a ≡ n → AreSound place a → AreSound (place + n) b → AreSound place (a ++ b)
  sound_both [] b place n e h k = let same : place + n ≡ place = omega (arith, e) in subst (λ p. AreSound p b) same k
  sound_both (i ∷ a) b place n e h k =
      let same : place + n ≡ suc place + length a = omega (arith, e) in
      (h.0, sound_both a b (suc place) (length a) refl h.1 (subst (λ p. AreSound p b) same k))

  -- what a target has to be for code that ends at a place
  abbrev pub IsTarget : ℕ → ℕ → Type 0
  IsTarget end target = (end ≤ target) × (target ≤ last) × (standing tables all target ≡ []) × (inside all target ≡ inside all end)
