-- Private: lines taken together. A line that begins with two dashes alone, and others up to the next such line.
use Rattle.std.specs.Prelude.{◌≡◌, ◌≢◌, ◌⊎◌, ℕ, ◌+◌, ◌<◌, ◌≤◌, List, [], ◌∷◌, ◌++◌, length, take, drop, slice_index, slice_range, Option, MatchOption}
use Rattle.text_lines.specs.Unread.{Unread}
use Rattle.text_lines.specs.Lines.{TextLine, lines_of, lines_left, line_octets, octets_of, IsAtEnd}
use Rattle.text_lines.specs.declared.line.Line.{Line}

-- octets that don't begin with two dashes
abbrev pub BeginsOtherwise : List ℕ → Type 0
BeginsOtherwise octets = (rest : List ℕ) → octets ≢ 45 ∷ 45 ∷ rest

-- lines of which none begins with two dashes
abbrev pub AreQuiet : List TextLine → Type 0
AreQuiet [] = Unit {0}
AreQuiet (line ∷ lines) = BeginsOtherwise line.content × AreQuiet lines

-- the octets of lines without the break of the last
abbrev pub before_last_break : List TextLine → List ℕ
before_last_break [] = []
before_last_break (line ∷ []) = line.content
before_last_break (line ∷ (next ∷ lines)) = line_octets line ++ before_last_break (next ∷ lines)

-- one line, of this content
pub record IsOneLine (lines : List TextLine) (content : List ℕ) : Type 0 where
  pub line : TextLine
  pub alone : lines ≡ line ∷ []
  pub same : line.content ≡ content

-- lines that don't begin with two dashes, nor do their octets
pub record IsQuiet (lines : List TextLine) (content : List ℕ) : Type 0 where
  pub quiet : AreQuiet lines
  pub otherwise : BeginsOtherwise content

-- a text begins with these lines, whose octets end at a place with their last break, and before it at another
pub record BeginsWithRun (text : List ℕ) (end stop : ℕ) : Type 0 where
  pub end_before_stop : end ≤ stop
  pub some : 0 < stop
  pub within : stop ≤ length text
  pub lines : List TextLine
  pub all : lines_of text ≡ lines ++ lines_of (drop stop text)
  pub octets : octets_of lines ≡ take stop text
  pub content : stop < length text → before_last_break lines ≡ take end text
  pub kind : IsOneLine lines (take end text) ⊎ IsQuiet lines (take end text)

-- the run that a text begins with, or nothing where it is empty
abbrev pub GivesFirstRun : List ℕ → Option Line → Type 0
GivesFirstRun text answer = MatchOption answer (text ≡ []) (λ run. (run.start ≡ 0) × BeginsWithRun text run.end run.stop)

-- the lines of a run were given
pub record IsNextRun (old : Unread) (run : Line) (new : Unread) : Type 0 where
  pub same_text : new.text ≡ old.text
  pub start : run.start ≡ old.place
  pub after : new.place ≡ run.stop
  pub end_after_start : run.start ≤ run.end
  pub stop_after_end : run.end ≤ run.stop
  pub some : run.start < run.stop
  pub within : run.stop ≤ length old.text
  pub lines : List TextLine
  pub left : lines_left old ≡ lines ++ lines_left new
  pub octets : octets_of lines ≡ slice_range old.text run.start run.stop
  pub content : run.stop < length old.text → before_last_break lines ≡ slice_range old.text run.start run.end
  pub kind : IsOneLine lines (slice_range old.text run.start run.end) ⊎ IsQuiet lines (slice_range old.text run.start run.end)

-- what a step gives: the lines of the next run, or nothing at the text's end
abbrev pub GivesRun : Unread → Option Line → Unread → Type 0
GivesRun old answer new = MatchOption answer (IsAtEnd old new) (λ run. IsNextRun old run new)

-- where the octets before an LF end, without a CR that belongs to the break
abbrev pub IsBeforeBreak : List ℕ → ℕ → ℕ → Type 0
IsBeforeBreak text feed end =
    ((feed ≡ end + 1) × (slice_index text end ≡ 13)) ⊎ ((feed ≡ end) × ((i : ℕ) → i + 1 ≡ feed → slice_index text i ≢ 13))
