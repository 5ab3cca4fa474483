-- Private: a header that is read field by field.
use Rattle.std.specs.Prelude.{if◌then◌else◌, ◌≡◌, ℕ, ◌+◌, ◌-◌, ◌≤◌, Bool, List, [], ◌∷◌, ◌++◌, ◌||◌, length, drop, slice_range, true, false, Option, MatchOption}
use Rattle.std.specs.Char.{to_ascii_lowercase}
use Rattle.octets.specs.Blank.{without_outer_blanks}
use Rattle.text_lines.specs.Unread.{Unread}
use Rattle.text_lines.specs.Lines.{lines_left, IsFirstLine}
use Rattle.text_lines.specs.declared.line.Line.{Line}
use Rattle.header_fields.specs.Fields.{Field}
use Rattle.header_fields.specs.Hashes.{hash_of}
use Rattle.header_fields.specs.Header.{begins_blank, is_field_line, is_name_octet, name_of, after_colon, fields_in, header_lines, header_length, continuation, has_feed, is_continued, without_breaks}

-- the fields of the header's lines that weren't given yet
abbrev pub fields_left : Unread → List Field
fields_left unread = fields_in (header_lines (lines_left unread))

-- where the body begins, by the lines that weren't given yet
abbrev pub body_left : Unread → ℕ
body_left unread = unread.place + header_length (lines_left unread)

-- the first line that wasn't given yet was, and it begins with SP or TAB
pub record IsContinuation (old : Unread) (line : Line) (new : Unread) : Type 0 where
  pub first : IsFirstLine old line new
  pub blank : begins_blank (drop old.place old.text) ≡ true

-- the first line that wasn't given yet, if there is one, doesn't begin with SP or TAB, and it isn't given
pub record NoContinuation (old new : Unread) : Type 0 where
  pub same : new ≡ old
  pub none : continuation (lines_left old) ≡ []

-- the first line that wasn't given yet, where it continues the one before it
abbrev pub GivesContinuation : Unread → Option Line → Unread → Type 0
GivesContinuation old answer new = MatchOption answer (NoContinuation old new) (λ line. IsContinuation old line new)

-- of the lines that continue a line some were given, and the last of them ends at this place
pub record IsContinuing (text : List ℕ) (line : Line) (old : Unread) (end : ℕ) (new : Unread) : Type 0 where
  pub after : line.end ≤ end
  pub forward : old.place ≤ new.place
  pub fields : fields_left new ≡ fields_left old
  pub body : body_left new ≡ body_left old
  pub value : (start : ℕ) → line.start ≤ start → start ≤ line.end
      → without_breaks (slice_range text start end) ++ continuation (lines_left new) ≡ slice_range text start line.end ++ continuation (lines_left old)
  pub folded : (start : ℕ) → line.start ≤ start → start ≤ line.end
      → (has_feed (slice_range text start end) || is_continued (lines_left new)) ≡ is_continued (lines_left old)

-- all of them were given
pub record IsContinued (text : List ℕ) (line : Line) (old : Unread) (end : ℕ) (new : Unread) : Type 0 where
  pub same_text : new.text ≡ text
  pub within : end ≤ length text
  pub so_far : IsContinuing text line old end new
  pub none_left : continuation (lines_left new) ≡ []

-- the field of a line and of the lines that continue it, of which the last ends at this place, and its name's hash, if it is a field line
abbrev pub IsFieldAt : List ℕ → Line → ℕ → Option (Field × ℕ) → Type 0
IsFieldAt text line end answer =
    let content = slice_range text line.start line.end in
    let after = slice_range text (line.end - length (after_colon content)) end in
    MatchOption answer (is_field_line content ≡ false)
    (λ read. ((is_field_line content ≡ true) × (read.0 ≡ record {
      name = name_of content;
      value = without_outer_blanks (without_breaks after);
      folded = has_feed after;
    })) × (read.1 ≡ hash_of (name_of content)))

-- a text begins with an octet of a name
abbrev pub begins_with_name : List ℕ → Bool
begins_with_name [] = false
begins_with_name (octet ∷ rest) = is_name_octet octet

-- an octet of a name as a small letter, and 0 for any other
abbrev pub name_octet : ℕ → ℕ
name_octet octet = if is_name_octet octet then to_ascii_lowercase octet else 0

-- the hash of the name of a line, if it is a field line
abbrev pub GivesNameHash : List ℕ → Option ℕ → Type 0
GivesNameHash line answer = MatchOption answer (is_field_line line ≡ false) (λ hash. (is_field_line line ≡ true) × (hash ≡ hash_of (name_of line)))
