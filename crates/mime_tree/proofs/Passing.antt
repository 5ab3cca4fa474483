-- Runs of lines that end no part.
use Rattle.std.proofs.Common.{◌≡◌, ◌≢◌, ◌⊎◌, ℕ, ◌+◌, ◌-◌, ◌<◌, ◌≤◌, Bool, false, ◌&&◌, List, [], ◌∷◌, ◌++◌, refl, sym, ◌∙◌, ap, subst, arith, length, drop, codes, inl, inr, add-zero}
use Rattle.std.specs.List.{slice_range}
use Rattle.std.proofs.lemmas.Bool.{cases_lt, true≢false}
use Rattle.std.proofs.lemmas.List.{append-nil, drop_all, length-append, length-drop}
use Rattle.text_lines.specs.Unread.{Unread}
use Rattle.text_lines.specs.Lines.{TextLine, lines_of, lines_left, line_octets, octets_of, IsAtEnd, AreLines}
use Rattle.text_lines.specs.declared.line.Line.{Line}
use Rattle.text_lines.proofs.Broken.{AreLines-lines_of, octets_of-lines_of}
use Rattle.text_lines.proofs.Slices.{length-slice}
use Rattle.header_fields.specs.Header.{line_length}
use Rattle.mime_tree.specs.PartTree.{Part}
use Rattle.mime_tree.specs.OpenParts.{OpenPart, all_ended, is_last, lines_at, meets_any, finished}
use Rattle.mime_tree.specs.Reading.{AreLeaves, IsMark, IsMet, IsHit, IsQuietEnd}
use Rattle.mime_tree.specs.Runs.{BeginsOtherwise, AreQuiet, before_last_break, IsOneLine, IsQuiet, IsNextRun}
use Rattle.mime_tree.specs.declared.delimiter.Mark.{Mark}
use Rattle.mime_tree.specs.declared.delimiter.Mark.TheVariants.{Delimiter, Closing}
use Rattle.mime_tree.specs.declared.hit.Met.{Met}
use Rattle.mime_tree.proofs.Delimiters.{no_delimiter}
use Rattle.mime_tree.proofs.Enclosing.{lines_after}
use Rattle.mime_tree.proofs.Ahead.{finished_step, none_left}
use Rattle.mime_tree.proofs.Meeting.{nothing_met}

-- a run of lines was read
pub record Read (text : List ℕ) (run : Line) (old new : Unread) : Type 0 where
  pub start : run.start ≡ old.place
  pub after : new.place ≡ run.stop
  pub end_after_start : run.start ≤ run.end
  pub stop_after_end : run.end ≤ run.stop
  pub some : run.start < run.stop
  pub within : run.stop ≤ length text
  pub same_text : new.text ≡ text
  pub lines : List TextLine
  pub left : lines_left old ≡ lines ++ lines_left new
  pub octets : octets_of lines ≡ slice_range text old.place new.place
  pub content : new.place < length text → before_last_break lines ≡ slice_range text old.place run.end
  pub length : old.place + length (octets_of lines) ≡ new.place
  pub kind : IsOneLine lines (slice_range text run.start run.end) ⊎ IsQuiet lines (slice_range text run.start run.end)

pub read_of : (text : List ℕ) (run : Line) (old new : Unread) → old.text ≡ text → IsNextRun old run new → Read text run old new
read_of text run old new same next =
    let octets : octets_of next.lines ≡ slice_range text old.place new.place =
    next.octets ∙ ap (λ t. slice_range t run.start run.stop) same ∙ ap (λ n. slice_range text n run.stop) next.start ∙ ap (slice_range text old.place) (sym next.after) in
    let within : run.stop ≤ length text = omega (arith, next.within, ap length same) in
    let long : length (octets_of next.lines) ≡ new.place - old.place =
    ap length octets ∙ length-slice text old.place new.place (omega (arith, next.start, next.after, next.some)) (omega (arith, next.after)) in
    record {
      start = next.start;
      after = next.after;
      end_after_start = next.end_after_start;
      stop_after_end = next.stop_after_end;
      some = next.some;
      within = within;
      same_text = next.same_text ∙ same;
      lines = next.lines;
      left = next.left;
      octets = octets;
      content = λ lt. next.content (omega (arith, next.after, ap length same)) ∙ ap (λ t. slice_range t run.start run.end) same ∙ ap (λ n. slice_range text n run.end) next.start;
      length = omega (arith, long, next.start, next.after, next.some);
      kind = subst (λ (t : List ℕ). IsOneLine next.lines (slice_range t run.start run.end) ⊎ IsQuiet next.lines (slice_range t run.start run.end)) same next.kind;
    }

-- ---- lines that meet no part

-- none of the lines does
abbrev pub MeetNone : Bool → List OpenPart → List TextLine → Type 0
MeetNone preamble opened [] = Unit {0}
MeetNone preamble opened (line ∷ lines) = (meets_any preamble opened line.content ≡ false) × MeetNone preamble opened lines

quiet_none : (preamble : Bool) (opened : List OpenPart) (line : List ℕ) → BeginsOtherwise line → meets_any preamble opened line ≡ false
quiet_none preamble opened line otherwise = nothing_met preamble opened line (λ b. sym (no_delimiter b line otherwise))

quiet_meet : (preamble : Bool) (opened : List OpenPart) (lines : List TextLine) → AreQuiet lines → MeetNone preamble opened lines
quiet_meet preamble opened [] quiet = tt
quiet_meet preamble opened (line ∷ lines) quiet = (quiet_none preamble opened line.content quiet.0, quiet_meet preamble opened lines quiet.1)

pub leaves_none : (preamble : Bool) (opened : List OpenPart) (line : List ℕ) → AreLeaves opened → meets_any preamble opened line ≡ false
leaves_none preamble [] line leaves = refl
leaves_none preamble (part ∷ inner) line leaves = rw (leaves.0, leaves_none preamble inner line leaves.1) refl

leaves_meet : (preamble : Bool) (opened : List OpenPart) (lines : List TextLine) → AreLeaves opened → MeetNone preamble opened lines
leaves_meet preamble opened [] leaves = tt
leaves_meet preamble opened (line ∷ lines) leaves = (leaves_none preamble opened line.content leaves, leaves_meet preamble opened lines leaves)

-- where the last of the lines ends
abbrev last_end : ℕ → ℕ → List TextLine → ℕ
last_end place end [] = end
last_end place end (line ∷ lines) = last_end (place + line_length line) (place + length line.content) lines

length_more : (line : TextLine) (lines : List TextLine) (place : ℕ) → place + line_length line + length (octets_of lines) ≡ place + length (octets_of (line ∷ lines))
length_more line lines place = omega (arith, length-append (line_octets line) (octets_of lines), length-append line.content line.break)

lines_passed : (preamble : Bool) (opened : List OpenPart) (place end : ℕ) (lines rest : List TextLine) (parts : List Part) → AreLines (lines ++ rest) → MeetNone preamble opened lines
    → finished preamble [] place end (lines ++ rest) opened parts ≡ finished preamble [] (place + length (octets_of lines)) (last_end place end lines) rest opened parts
lines_passed preamble opened place end [] rest parts are none = ap (λ n. finished preamble [] n end rest opened parts) (sym (add-zero place))
lines_passed preamble opened place end (line ∷ lines) rest parts are none =
    finished_step preamble [] place end line (lines ++ rest) opened parts are refl none.0
    ∙ lines_passed preamble opened (place + line_length line) (place + length line.content) lines rest parts (lines_after line (lines ++ rest) are) none.1
    ∙ ap (λ n. finished preamble [] n (last_end (place + line_length line) (place + length line.content) lines) rest opened parts) (length_more line lines place)

last_before : (place end : ℕ) (lines : List TextLine) → lines ≢ [] → last_end place end lines ≡ place + length (before_last_break lines)
last_before place end [] some = absurd (some refl)
last_before place end (line ∷ []) some = refl
last_before place end (line ∷ (next ∷ lines)) some =
    last_before (place + line_length line) (place + length line.content) (next ∷ lines) (λ e. cc)
    ∙ omega (arith, length-append (line_octets line) (before_last_break (next ∷ lines)), length-append line.content line.break)

-- ---- runs

some_read : (text : List ℕ) (run : Line) (old new : Unread) → (read : Read text run old new) → read.lines ≢ []
some_read text run old new read none =
    omega (arith, read.length, ap (λ (lines : List TextLine). length (octets_of lines)) none, read.start, read.after, read.some)

read_at : (text : List ℕ) (run : Line) (old new : Unread) → old.text ≡ text → (read : Read text run old new) → lines_at text old.place ≡ read.lines ++ lines_at text new.place
read_at text run old new same read =
    ap (λ (t : List ℕ). lines_of (drop old.place t)) (sym same) ∙ read.left ∙ ap (λ (t : List ℕ). read.lines ++ lines_of (drop new.place t)) read.same_text

none_met : (preamble : Bool) (opened : List OpenPart) (text : List ℕ) (run : Line) (old new : Unread) → (read : Read text run old new) → meets_any preamble opened (slice_range text run.start run.end) ≡ false
    → MeetNone preamble opened read.lines
none_met preamble opened text run old new read none = elim read.kind [
  | inl one ↦ subst (MeetNone preamble opened) (sym one.alone) (ap (meets_any preamble opened) one.same ∙ none, tt)
  | inr quiet ↦ quiet_meet preamble opened read.lines quiet.quiet
]

-- a run that meets no part is passed
pub run_passed : (preamble : Bool) (opened : List OpenPart) (text : List ℕ) (run : Line) (old new : Unread) (end : ℕ) (parts : List Part) → old.text ≡ text → Read text run old new
    → meets_any preamble opened (slice_range text run.start run.end) ≡ false
    → finished preamble [] old.place end (lines_at text old.place) opened parts ≡ finished preamble [] new.place run.end (lines_at text new.place) opened parts
run_passed preamble opened text run old new end parts same read none =
    let left = lines_at text new.place in
    let at = read_at text run old new same read in
    let are : AreLines (read.lines ++ left) = subst AreLines at (AreLines-lines_of (drop old.place text)) in
    ap (λ ls. finished preamble [] old.place end ls opened parts) at
    ∙ lines_passed preamble opened old.place end read.lines left parts are (none_met preamble opened text run old new read none)
    ∙ ap (λ n. finished preamble [] n (last_end old.place end read.lines) left opened parts) read.length
    ∙ elim (cases_lt new.place (length text)) [
      | inl lt ↦
          let long : length (slice_range text old.place run.end) ≡ run.end - old.place =
          length-slice text old.place run.end (omega (arith, read.start, read.end_after_start)) (omega (arith, read.stop_after_end, read.within)) in
          let last : last_end old.place end read.lines ≡ run.end =
          last_before old.place end read.lines (some_read text run old new read)
          ∙ omega (arith, ap length (read.content lt), long, read.start, read.end_after_start) in
          ap (λ n. finished preamble [] new.place n left opened parts) last
      | inr ge ↦
          let ended : left ≡ [] = ap lines_of (drop_all new.place text (omega arith)) in
          ap (λ ls. finished preamble [] new.place (last_end old.place end read.lines) ls opened parts) ended
          ∙ none_left preamble opened [] new.place (last_end old.place end read.lines) parts
          ∙ sym (none_left preamble opened [] new.place run.end parts)
          ∙ sym (ap (λ ls. finished preamble [] new.place run.end ls opened parts) ended)
    ]

-- where no child may come any more, all lines are passed
pub leaves_passed : (preamble : Bool) (opened : List OpenPart) (text : List ℕ) (place end : ℕ) → place ≤ length text → AreLeaves opened → IsQuietEnd preamble opened text place end
leaves_passed preamble opened text place end within leaves parts =
    let lines = lines_at text place in
    let whole : lines ++ [] ≡ lines = append-nil lines in
    let are : AreLines (lines ++ []) = subst AreLines (sym whole) (AreLines-lines_of (drop place text)) in
    let long : place + length (octets_of lines) ≡ length text = omega (arith, ap length (octets_of-lines_of (drop place text)), length-drop place text) in
    ap (λ ls. finished preamble [] place end ls opened parts) (sym whole)
    ∙ lines_passed preamble opened place end lines [] parts are (leaves_meet preamble opened lines leaves)
    ∙ ap (λ n. finished preamble [] n (last_end place end lines) [] opened parts) long
    ∙ none_left preamble opened [] (length text) (last_end place end lines) parts
    ∙ sym (none_left preamble opened [] (length text) (length text) parts)

-- a run that meets a part is one line
not_quiet : (preamble : Bool) (opened : List OpenPart) (line : List ℕ) (met : Met) → BeginsOtherwise line → IsMet preamble opened line met → ⊥
not_quiet preamble opened line met otherwise m = by_mark met.mark m.mark where
  by_mark : (mark : Mark) → IsMark (is_last m.inner && preamble) m.boundary line mark → ⊥
  by_mark Delimiter is = true≢false (sym is ∙ sym (no_delimiter m.boundary line otherwise))
  by_mark Closing is = true≢false (sym is.0 ∙ sym (no_delimiter (m.boundary ++ codes "--") line otherwise))

pub run_hit : (preamble : Bool) (opened : List OpenPart) (text : List ℕ) (place end before : ℕ) (run : Line) (old new : Unread) (met : Met) → old.text ≡ text → Read text run old new → place ≤ old.place
    → ((parts : List Part) → finished preamble [] place end (lines_at text place) opened parts ≡ finished preamble [] old.place before (lines_at text old.place) opened parts)
    → IsMet preamble opened (slice_range text run.start run.end) met
    → IsHit preamble opened text place end (record { end = before; line = run; met = met })
run_hit preamble opened text place end before run old new met same read forward so_far m = elim read.kind [
  | inr quiet ↦ absurd (not_quiet preamble opened (slice_range text run.start run.end) met quiet.otherwise m)
  | inl one ↦
      let at = read_at text run old new same read in
      let lines : lines_at text run.start ≡ one.line ∷ lines_at text run.stop =
      ap (lines_at text) read.start ∙ at ∙ ap (λ (ls : List TextLine). ls ++ lines_at text new.place) one.alone ∙ ap (λ n. one.line ∷ lines_at text n) read.after in
      let long : length (slice_range text run.start run.end) ≡ run.end - run.start = length-slice text run.start run.end read.end_after_start (omega (arith, read.stop_after_end, read.within)) in
      record {
        line = one.line;
        here = omega (arith, read.start, forward);
        some = read.some;
        within = read.within;
        lines = lines;
        content = omega (arith, long, ap length one.same, read.end_after_start);
        after = omega (arith, read.length, ap (λ (ls : List TextLine). length (octets_of ls)) one.alone, length_more one.line [] old.place, read.start, read.after);
        same = λ parts. so_far parts ∙ ap (λ n. finished preamble [] n before (lines_at text n) opened parts) (sym read.start);
        met = subst (λ (t : List ℕ). IsMet preamble opened t met) (sym one.same) m;
      }
]

-- at the end all lines were passed
pub ends_quiet : (preamble : Bool) (opened : List OpenPart) (text : List ℕ) (place end before : ℕ) (old new : Unread) → old.text ≡ text → IsAtEnd old new
    → ((parts : List Part) → finished preamble [] place end (lines_at text place) opened parts ≡ finished preamble [] old.place before (lines_at text old.place) opened parts)
    → IsQuietEnd preamble opened text place end
ends_quiet preamble opened text place end before old new same at so_far parts =
    let here : old.place ≡ length text = at.ended ∙ ap length same in
    let none : lines_at text old.place ≡ [] = ap (λ (t : List ℕ). lines_of (drop old.place t)) (sym same) ∙ at.none in
    so_far parts
    ∙ ap (λ ls. finished preamble [] old.place before ls opened parts) none
    ∙ none_left preamble opened [] old.place before parts
    ∙ ap (λ n. all_ended n opened parts) here
    ∙ sym (none_left preamble opened [] (length text) (length text) parts)
