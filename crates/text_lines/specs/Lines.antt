-- The lines of a text (RFC 2045, section 2.10).
use Rattle.std.specs.Prelude.{◌≡◌, ◌≢◌, ◌⊎◌, All, ℕ, ◌+◌, ◌<◌, ◌≤◌, Bool, false, ◌==◌, ◌&&◌, if◌then◌else◌, List, [], ◌∷◌, ◌++◌, length, drop, slice_index, slice_range, flat_map, Option, MatchOption}
use Rattle.std.specs.Iterator.{Count, at_most}
use Rattle.text_lines.specs.Unread.{Unread}
use Rattle.text_lines.specs.declared.line.Line.{Line}

-- a line: its octets without the break, and its break
pub record TextLine : Type 0 where
  pub content : List ℕ
  pub break : List ℕ

-- whether an octet is a CR before LF, and so belongs to a break
abbrev pub is_first_of_break : ℕ → List ℕ → Bool
is_first_of_break octet [] = false
is_first_of_break octet (following ∷ rest) = (octet == 13) && (following == 10)

-- the lines, with an octet more before the content of the first; it is a line of its own where there is none
abbrev pub onto_content : ℕ → List TextLine → List TextLine
onto_content octet [] = record { content = octet ∷ []; break = [] } ∷ []
onto_content octet (line ∷ lines) = record { content = octet ∷ line.content; break = line.break } ∷ lines

-- the lines, with an octet more before the break of the first
abbrev pub onto_break : ℕ → List TextLine → List TextLine
onto_break octet [] = []
onto_break octet (line ∷ lines) = record { content = line.content; break = octet ∷ line.break } ∷ lines

-- the lines of a text: LF ends a line, and a CR directly before it belongs to the break; any other CR is an octet as others.
-- After a break at the text's end comes no further line, and the empty text has none
abbrev pub lines_of : List ℕ → List TextLine
lines_of [] = []
lines_of (octet ∷ rest) =
    if octet == 10 then record { content = []; break = 10 ∷ [] } ∷ lines_of rest
    else (if is_first_of_break octet rest then onto_break octet (lines_of rest) else onto_content octet (lines_of rest))

-- the octets of a line with its break
abbrev pub line_octets : TextLine → List ℕ
line_octets line = line.content ++ line.break

-- the lines put together
abbrev pub octets_of : List TextLine → List ℕ
octets_of lines = flat_map line_octets lines

-- an octet that may stand within a line
abbrev pub IsNotFeed : ℕ → Type 0
IsNotFeed octet = octet ≢ 10

-- a line that a break ends: it has no LF, and no CR stands before a break that is LF alone
pub record IsEndedLine (line : TextLine) : Type 0 where
  pub no_feed : All IsNotFeed line.content
  pub ended : (line.break ≡ 13 ∷ 10 ∷ []) ⊎ ((line.break ≡ 10 ∷ []) × ((before : List ℕ) → line.content ≢ before ++ 13 ∷ []))

-- the last line of a text that no break ends
pub record IsOpenLine (line : TextLine) : Type 0 where
  pub no_feed : All IsNotFeed line.content
  pub some : line.content ≢ []
  pub no_break : line.break ≡ []

-- lines that are those of some text: a break ends each, but perhaps the last
abbrev pub AreLines : List TextLine → Type 0
AreLines [] = Unit {0}
AreLines (line ∷ lines) = (IsEndedLine line × AreLines lines) ⊎ (IsOpenLine line × (lines ≡ []))

-- what stands at a line's places
abbrev pub text_line : List ℕ → Line → TextLine
text_line text line = record { content = slice_range text line.start line.end; break = slice_range text line.end line.stop }

-- the lines that weren't given yet
abbrev pub lines_left : Unread → List TextLine
lines_left unread = lines_of (drop unread.place unread.text)

-- after the line's octets stands its break: LF with no CR of the line before it, CRLF, or nothing at the text's end
abbrev pub EndsInBreak : List ℕ → Line → Type 0
EndsInBreak text line =
    ((line.stop ≡ line.end + 1) × (slice_index text line.end ≡ 10) × ((i : ℕ) → line.start ≤ i → i + 1 ≡ line.end → slice_index text i ≢ 13))
    ⊎ (((line.stop ≡ line.end + 2) × (slice_index text line.end ≡ 13) × (slice_index text (line.end + 1) ≡ 10))
    ⊎ ((line.stop ≡ line.end) × (line.stop ≡ length text)))

-- the line starts at the place, and the lines from there on are this one and those from its stop on
pub record IsLineAt (text : List ℕ) (place : ℕ) (line : Line) : Type 0 where
  pub start : line.start ≡ place
  pub end_after_start : line.start ≤ line.end
  pub stop_after_end : line.end ≤ line.stop
  pub some : line.start < line.stop
  pub within : line.stop ≤ length text
  pub no_feed : (i : ℕ) → line.start ≤ i → i < line.end → slice_index text i ≢ 10
  pub break : EndsInBreak text line
  pub first : lines_of (drop place text) ≡ text_line text line ∷ lines_of (drop line.stop text)

-- the line is the first of those that weren't given, and the others are left
pub record IsFirstLine (old : Unread) (line : Line) (new : Unread) : Type 0 where
  pub same_text : new.text ≡ old.text
  pub after : new.place ≡ line.stop
  pub here : IsLineAt old.text old.place line
  pub left : lines_left old ≡ text_line old.text line ∷ lines_left new

-- the whole text was given, and nothing changes
pub record IsAtEnd (old new : Unread) : Type 0 where
  pub ended : old.place ≡ length old.text
  pub none : lines_left old ≡ []
  pub same : new ≡ old

-- what a step gives: the first line that wasn't given yet, or nothing at the text's end
abbrev pub GivesLine : Unread → Option Line → Unread → Type 0
GivesLine old answer new = MatchOption answer (IsAtEnd old new) (λ line. IsFirstLine old line new)

-- how many steps give a line
abbrev pub lines_left_at_most : Unread → Count
lines_left_at_most unread = at_most (length (lines_left unread))
