-- The shape: which entries stand on the stack before the instruction at a place.
use Rattle.std.specs.Prelude.{ℕ, zero, suc, Bool, true, false, ◌&&◌, not, List, [], ◌∷◌, Option, Some, None, if◌then◌else◌, length, min, sum, nat_lt, ◌==◌, slice_get}
use Rattle.std.specs.List.{list_any}
use Rattle.std.specs.Option.{option_and_then, option_map, option_map_or}
use Rattle.octets.specs.Limits.{max_stack, max_string, max_value}
use Rattle.bytecode_format.specs.declared.instruction.Instruction.{Instruction}
use Rattle.bytecode_format.specs.declared.operation.Operation.{Operation}
use Rattle.bytecode_format.specs.declared.operation.Operation.TheVariants.{Halt, Literal, Variable, Capture, Join, Set, Not, Jump, JumpIfTrue, JumpIfFalse, Keep, Discard, File, Store, Each, Next, Break, Take, Test}
use Rattle.bytecode_format.specs.declared.question.Counts.{Counts}
use Rattle.bytecode_format.specs.Questions.{counts_in}
use Rattle.bytecode_format.specs.Operations.{operation_of}
use Rattle.bytecode_format.specs.Code.{Code}
use Rattle.bytecode_verifier.specs.Rows.{row_named, is_jump}
use Rattle.bytecode_verifier.specs.Taken as taken
use Rattle.bytecode_verifier.specs.Taken.{OnTop, texts_on_top, lists_on_top}
use Rattle.bytecode_verifier.specs.declared.shape.Entry.{Entry}
use Rattle.bytecode_verifier.specs.declared.shape.Entry.TheVariants.{Truth, Text}

-- the entries, the top one first
abbrev pub Entries : Type 0
Entries = List Entry

-- one more entry on top, where there is room for it
abbrev pub with_entry : Entry → Entries → Option Entries
with_entry entry entries = if nat_lt (length entries) max_stack then Some (entry ∷ entries) else None

abbrev pub is_empty : Entries → Bool
is_empty [] = true
is_empty (entry ∷ entries) = false

-- the top entry is a truth value
abbrev pub has_truth : Entries → Bool
has_truth (Truth ∷ entries) = true
has_truth _ = false

-- no entries, where there is one, a truth value
abbrev pub without_truth : Entries → Option Entries
without_truth (Truth ∷ []) = Some []
without_truth _ = None

-- the bound of an entry that is a text
abbrev pub bound_in : Entry → Option ℕ
bound_in Truth = None
bound_in (Text bound) = Some bound

-- the bounds of texts that are taken from the top, and the entries below them
abbrev pub Texts : Type 0
Texts = OnTop Entry ℕ

-- so many texts from the top
abbrev pub take_texts : ℕ → Entries → Option Texts
take_texts n entries = texts_on_top bound_in n entries

-- the bounds of lists of texts that are taken, and the entries below them
abbrev pub Lists : Type 0
Lists = taken.Lists Entry ℕ

-- the lists of a test that has so many
abbrev pub take_counted : Counts → Entries → Option Lists
take_counted counts entries = lists_on_top bound_in counts.names counts.params counts.keys entries

-- a text of at most as many octets as the string has, where there is one
abbrev pub with_string : Option (List ℕ) → Entries → Option Entries
with_string string entries = option_and_then (λ octets. with_entry (Text (length octets)) entries) string

-- in place of texts one of as many octets as they have together, and of no more than a string has
abbrev pub with_joined : Texts → Option Entries
with_joined parts = with_entry (Text (min (sum parts.texts) max_string)) parts.below

-- the entries that an operation leaves of these, or None where an entry is missing or of the wrong
-- kind, where there is no room, or where entries are left that must not be
abbrev pub entries_after : Code → Operation → Instruction → Entries → Option Entries
entries_after code Halt i entries = if is_empty entries then Some [] else None
entries_after code Literal i entries = with_string (slice_get code.strings i.c) entries
entries_after code Variable i entries = with_entry (Text max_value) entries
entries_after code Capture i entries = with_entry (Text max_value) entries
entries_after code Join i entries = option_and_then with_joined (take_texts i.b entries)
entries_after code Set i entries = option_map (λ (value : Texts). value.below) (take_texts 1 entries)
entries_after code (Test test) i entries = option_and_then (λ (lists : Lists). with_entry Truth lists.below)
    (take_counted (counts_in test i) entries)
entries_after code Not i entries = if has_truth entries then Some entries else None
entries_after code Jump i entries = if is_empty entries then Some [] else None
entries_after code JumpIfTrue i entries = without_truth entries
entries_after code JumpIfFalse i entries = without_truth entries
entries_after code Keep i entries = Some entries
entries_after code Discard i entries = Some entries
entries_after code File i entries = option_map (λ (folder : Texts). folder.below) (take_texts 1 entries)
entries_after code Store i entries = option_map (λ (folder : Texts). folder.below) (take_texts 1 entries)
entries_after code Each i entries = if is_empty entries then Some [] else None
entries_after code Next i entries = if is_empty entries then Some [] else None
entries_after code Break i entries = if is_empty entries then Some [] else None
entries_after code Take i entries = Some entries

-- an instruction of these jumps to the place
abbrev pub is_target : ℕ → List Instruction → ℕ → Bool
is_target version instructions place = list_any (λ i. is_jump (row_named version i.op) && (i.c == place)) instructions

-- the entries after an instruction: where a jump leads to it there must be none before it
abbrev pub shape_after : Code → Bool → Option Operation → Instruction → Entries → Option Entries
shape_after code targeted operation i entries =
    if targeted && not (is_empty entries) then None else option_and_then (λ o. entries_after code o i entries) operation

-- the entries before the instruction at a place, or None where the shape has failed before it;
-- after the last one nothing fails
abbrev pub shape_at : Code → ℕ → Option Entries
shape_at code zero = Some []
shape_at code (suc place) =
    option_and_then (λ entries. option_map_or
    (λ i. shape_after code (is_target code.version code.instructions place) (operation_of i.op) i entries)
    (slice_get code.instructions place) (Some entries)) (shape_at code place)
