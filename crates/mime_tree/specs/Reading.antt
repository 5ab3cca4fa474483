-- Private: what functions of the reader are about.
use Rattle.std.specs.Prelude.{◌≡◌, ℕ, ◌+◌, ◌<◌, ◌≤◌, ◌&&◌, Bool, true, false, not, List, [], ◌∷◌, ◌++◌, length, take, slice_get, Option, None, Some, MatchOption, bytes_eq, codes, if◌then◌else◌}
use Rattle.octets.specs.Limits.{max_depth, max_parts}
use Rattle.text_lines.specs.Lines.{TextLine}
use Rattle.header_fields.specs.Header.{line_length}
use Rattle.mime_tree.specs.PartTree.{Part, is_delimiter, is_closing, default_media}
use Rattle.mime_tree.specs.Enclosing.{first_ends_any}
use Rattle.mime_tree.specs.OpenParts.{OpenPart, boundaries_in, finished, is_last, lines_at, meets_any, parts_begun}
use Rattle.mime_tree.specs.declared.delimiter.Mark.{Mark}
use Rattle.mime_tree.specs.declared.delimiter.Mark.TheVariants.{Delimiter, Closing}
use Rattle.mime_tree.specs.declared.lengths.BoundaryLengths.{BoundaryLengths}
use Rattle.mime_tree.specs.declared.hit.Met.{Met}
use Rattle.mime_tree.specs.declared.hit.Hit.{Hit}
use Rattle.mime_tree.specs.declared.reader.Beginning.{Beginning}
use Rattle.mime_tree.specs.declared.error.MessageError.{MessageError}
use Rattle.mime_tree.specs.declared.error.MessageError.TheVariants.{Memory, MessageTooLarge, TooManyParts}

-- ---- lines that end parts

-- the octets by which a line is compared with boundaries; without them it is the delimiter of none
abbrev pub NamesOctets : List ℕ → Option (List ℕ) → Type 0
NamesOctets line None = (boundary : List ℕ) → is_delimiter boundary line ≡ false
NamesOctets line (Some name) = (boundary : List ℕ) → is_delimiter boundary line ≡ bytes_eq name boundary

-- what a line of this name is to the multipart of this boundary
abbrev pub mark_of : Bool → List ℕ → List ℕ → Option Mark
mark_of preamble boundary name =
    if bytes_eq name boundary then Some Delimiter
    else if not preamble && bytes_eq name (boundary ++ codes "--") then Some Closing
    else None

abbrev pub mark_in : Bool → Option (List ℕ) → List ℕ → Option Mark
mark_in preamble None name = None
mark_in preamble (Some boundary) name = mark_of preamble boundary name

-- a line is this of the multipart of this boundary
abbrev pub IsMark : Bool → List ℕ → List ℕ → Mark → Type 0
IsMark preamble boundary line Delimiter = is_delimiter boundary line ≡ true
IsMark preamble boundary line Closing = (is_closing boundary line ≡ true) × (preamble ≡ false)

-- the line meets one of the open parts, and none of those around that
pub record IsMet (preamble : Bool) (opened : List OpenPart) (line : List ℕ) (met : Met) : Type 0 where
  pub outer : List OpenPart
  pub this : OpenPart
  pub inner : List OpenPart
  pub all : opened ≡ outer ++ this ∷ inner
  pub place : met.place ≡ length outer
  pub none : meets_any false outer line ≡ false
  pub boundary : List ℕ
  pub has : this.boundary ≡ Some boundary
  pub mark : IsMark (is_last inner && preamble) boundary line met.mark

abbrev pub GivesMet : Bool → List OpenPart → List ℕ → Option Met → Type 0
GivesMet preamble opened line answer = MatchOption answer (meets_any preamble opened line ≡ false) (λ met. IsMet preamble opened line met)

-- the boundary of a part has no fewer and no more octets than these
abbrev pub IsWithin : BoundaryLengths → Option (List ℕ) → Type 0
IsWithin lengths None = Unit {0}
IsWithin lengths (Some boundary) = (lengths.least ≤ length boundary) × (length boundary ≤ lengths.most)

abbrev pub AreWithin : BoundaryLengths → List OpenPart → Type 0
AreWithin lengths [] = Unit {0}
AreWithin lengths (part ∷ inner) = IsWithin lengths part.boundary × AreWithin lengths inner

abbrev pub AreLeaves : List OpenPart → Type 0
AreLeaves [] = Unit {0}
AreLeaves (part ∷ inner) = (part.boundary ≡ None) × AreLeaves inner

-- the lines from a place to this one end no part, where these are open
pub record IsHit (preamble : Bool) (opened : List OpenPart) (text : List ℕ) (place end : ℕ) (hit : Hit) : Type 0 where
  pub line : TextLine
  pub here : place ≤ hit.line.start
  pub some : hit.line.start < hit.line.stop
  pub within : hit.line.stop ≤ length text
  pub lines : lines_at text hit.line.start ≡ line ∷ lines_at text hit.line.stop
  pub content : hit.line.end ≡ hit.line.start + length line.content
  pub after : hit.line.stop ≡ hit.line.start + line_length line
  pub same : (parts : List Part) → finished preamble [] place end (lines_at text place) opened parts ≡ finished preamble [] hit.line.start hit.end (lines_at text hit.line.start) opened parts
  pub met : IsMet preamble opened line.content hit.met

-- no line from a place on ends a part
abbrev pub IsQuietEnd : Bool → List OpenPart → List ℕ → ℕ → ℕ → Type 0
IsQuietEnd preamble opened text place end =
    (parts : List Part) → finished preamble [] place end (lines_at text place) opened parts ≡ finished preamble [] (length text) (length text) [] opened parts

abbrev pub GivesHit : Bool → List OpenPart → List ℕ → ℕ → ℕ → Option Hit → Type 0
GivesHit preamble opened text place end answer = MatchOption answer (IsQuietEnd preamble opened text place end) (λ hit. IsHit preamble opened text place end hit)

-- ---- where parts begin

-- the places of open parts are those of parts that were read, of which there are so many
abbrev pub AreAmong : ℕ → List OpenPart → Type 0
AreAmong count [] = Unit {0}
AreAmong count (part ∷ inner) = (part.at < count) × AreAmong count inner

-- a part begins in the text, and few enough levels of parts may be below it
pub record IsBeginning (text : List ℕ) (beginning : Beginning) : Type 0 where
  pub within : beginning.place ≤ length text
  pub before : beginning.end ≤ beginning.place
  pub levels : beginning.levels < max_depth

abbrev pub GivesPart : List ℕ → Option Beginning → Type 0
GivesPart text answer = MatchOption answer (Unit {0}) (λ beginning. IsBeginning text beginning)

-- what the parts so far become, where a part begins here and these are open
abbrev pub wanted_from : List ℕ → Beginning → List OpenPart → List Part → List Part
wanted_from text beginning opened parts =
    let lines = lines_at text beginning.place in
    finished false [] beginning.place beginning.end lines opened
    (parts ++ parts_begun (boundaries_in [] opened) beginning.levels (default_media beginning.default) beginning.place lines)

-- where no further part begins, they are all
abbrev pub wanted : List ℕ → Option Beginning → List OpenPart → List Part → List Part
wanted text None opened parts = parts
wanted text (Some beginning) opened parts = wanted_from text beginning opened parts

-- the child after a delimiter line of the last open part
pub record BeginsChild (text : List ℕ) (hit : Hit) (opened : List OpenPart) (beginning : Beginning) : Type 0 where
  pub end : beginning.end ≡ hit.line.end
  pub part : OpenPart
  pub is : slice_get opened hit.met.place ≡ Some part
  pub levels : beginning.levels ≡ part.levels
  pub few : beginning.levels < max_depth
  pub default : default_media beginning.default ≡ part.default
  pub place : beginning.place ≡ (if first_ends_any (boundaries_in [] (take hit.met.place opened)) (lines_at text hit.line.stop) then hit.line.end else hit.line.stop)

-- of a function that finds so many parts or more: they are too many, or memory was refused
abbrev pub IsRefusedFor : MessageError → ℕ → Type 0
IsRefusedFor Memory parts = Unit {0}
IsRefusedFor MessageTooLarge parts = ⊥
IsRefusedFor TooManyParts parts = max_parts < parts
