-- Private: the parts of a message that haven't ended where its reader stands, and what is still to come in them.
use Rattle.std.specs.Prelude.{ℕ, ◌+◌, ◌-◌, ◌==◌, ◌&&◌, ◌||◌, Bool, true, false, List, [], ◌∷◌, ◌++◌, length, take, drop, flat_map, Option, None, Some, codes, nat_lt, if◌then◌else◌}
use Rattle.octets.specs.Blank.{without_trailing_blanks}
use Rattle.text_lines.specs.Lines.{TextLine, lines_of}
use Rattle.mime_params.specs.MediaValue.{value_named}
use Rattle.mime_params.specs.declared.media.MediaType.{MediaType}
use Rattle.octets.specs.Ascii.{is_word}
use Rattle.mime_tree.specs.PartTree.{Part, Stretch, is_plain, is_delimiter, ends_child, further_children, multipart_children, part_at, default_below, parts_of}
use Rattle.mime_tree.specs.Enclosing.{first_ends_any, octets_before}

-- a part that hasn't ended: its place among the parts; how many levels may be below its children; the media type of a child
-- that has no Content-Type; the boundary between its children, if more of them may come
pub record OpenPart : Type 0 where
  pub at : ℕ
  pub levels : ℕ
  pub default : MediaType
  pub boundary : Option (List ℕ)

-- the boundaries around a child of a part
abbrev pub boundaries_with : Option (List ℕ) → List (List ℕ) → List (List ℕ)
boundaries_with None around = around
boundaries_with (Some boundary) around = boundary ∷ around

-- the boundaries around a child of the last of these parts, the innermost first
abbrev pub boundaries_in : List (List ℕ) → List OpenPart → List (List ℕ)
boundaries_in around [] = around
boundaries_in around (part ∷ inner) = boundaries_in (boundaries_with part.boundary around) inner

-- the lines that are left of lines which are cut at some boundaries
abbrev pub cut : List (List ℕ) → List TextLine → List TextLine
cut around lines = lines_of (octets_before around lines)

-- the lines of a text from a place on
abbrev pub lines_at : List ℕ → ℕ → List TextLine
lines_at text place = lines_of (drop place text)

abbrev pub is_last : List OpenPart → Bool
is_last [] = true
is_last (part ∷ inner) = false

-- a line is a delimiter or closing line of this boundary; before its first delimiter there is no closing line
abbrev pub meets : Bool → Option (List ℕ) → List ℕ → Bool
meets preamble None line = false
meets preamble (Some boundary) line = if preamble then is_delimiter boundary line else ends_child boundary line

-- it is that of any of these parts, of which the last may still be before its first delimiter
abbrev pub meets_any : Bool → List OpenPart → List ℕ → Bool
meets_any preamble [] line = false
meets_any preamble (part ∷ inner) line = meets (is_last inner && preamble) part.boundary line || meets_any preamble inner line

-- where a part ends that goes on with these lines at this place, by where the lines before them end
abbrev pub end_from : List (List ℕ) → ℕ → ℕ → List TextLine → ℕ
end_from around place end lines = if first_ends_any around lines then end else place + length (octets_before around lines)

-- the children that begin in these lines
abbrev pub children_ahead : Bool → Option (List ℕ) → List (List ℕ) → ℕ → List TextLine → List Stretch
children_ahead preamble None around place lines = []
children_ahead preamble (Some boundary) around place lines =
    if preamble then multipart_children boundary place (cut around lines) else further_children boundary place (cut around lines)

abbrev pub parts_ahead : Bool → OpenPart → List (List ℕ) → ℕ → List TextLine → List Part
parts_ahead preamble part around place lines = flat_map (parts_of part.levels part.default) (children_ahead preamble part.boundary around place lines)

-- the first of these parts ends at this place, and the others are below it
abbrev pub first_ended : ℕ → List Part → List Part
first_ended end [] = []
first_ended end (part ∷ parts) = record part { below = length parts; raw = take (end - part.place) part.raw } ∷ parts

-- the part at a place among the parts ends, and those after it are below it
abbrev pub ended_at : ℕ → ℕ → List Part → List Part
ended_at at end parts = take at parts ++ first_ended end (drop at parts)

-- all of these parts end at one place, the innermost first
abbrev pub all_ended : ℕ → List OpenPart → List Part → List Part
all_ended end [] parts = parts
all_ended end (part ∷ inner) parts = ended_at part.at end (all_ended end inner parts)

-- what the parts so far become, where these are open and these lines are left: the parts that still come in them are added,
-- and each of them ends where the next line does that ends a part of any multipart around it
abbrev pub finished : Bool → List (List ℕ) → ℕ → ℕ → List TextLine → List OpenPart → List Part → List Part
finished preamble around place end lines [] parts = parts
finished preamble around place end lines (part ∷ inner) parts =
    ended_at part.at (end_from around place end lines)
    (finished preamble (boundaries_with part.boundary around) place end lines inner parts
    ++ parts_ahead (is_last inner && preamble) part around place lines)

-- the parts that begin with these lines at this place, within these boundaries
abbrev pub parts_begun : List (List ℕ) → ℕ → MediaType → ℕ → List TextLine → List Part
parts_begun around levels default place lines = parts_of levels default (record { place = place; octets = octets_before around lines })

-- the break of a line, as a line of its own
abbrev pub break_alone : TextLine → TextLine
break_alone line = record { content = []; break = line.break }

-- ---- a part that was read

-- a part whose header is the first so many of these octets, as if it went on to their end
abbrev pub part_read : ℕ → MediaType → ℕ → List ℕ → ℕ → Part
part_read depth default place rest header = record (part_at depth default (record { place = place; octets = take header rest })) { raw = rest }

-- a boundary ends before its trailing SP and TAB, and isn't empty
abbrev pub named_boundary : Option (List ℕ) → Option (List ℕ)
named_boundary None = None
named_boundary (Some value) =
    let boundary = without_trailing_blanks value in
    if length boundary == 0 then None else Some boundary

-- the boundary between the children of a part, if it can have several
abbrev pub boundary_inside : Part → Option (List ℕ)
boundary_inside part =
    if is_plain part.encoding && is_word part.media.main (codes "multipart") then named_boundary (value_named (codes "boundary") part.media.params) else None

-- the same where so many levels of parts may be below it
abbrev pub boundary_of_child : ℕ → Part → Option (List ℕ)
boundary_of_child levels part = if levels == 0 then None else boundary_inside part

-- its body is a message
abbrev pub holds_message : Part → Bool
holds_message part = is_plain part.encoding && (is_word part.media.main (codes "message") && is_word part.media.sub (codes "rfc822"))

-- its body is its only child, where so many levels of parts may be below it
abbrev pub message_below : ℕ → Part → Bool
message_below levels part = nat_lt 0 levels && holds_message part

-- it has this place among the parts, and hasn't ended
abbrev pub opening : ℕ → ℕ → Part → OpenPart
opening at levels part = record { at = at; levels = levels - 1; default = default_below part.media; boundary = boundary_of_child levels part }
