-- A part whose header was read, where the multiparts around it may cut it.
use Rattle.std.proofs.Common.{◌≡◌, ◌≢◌, ℕ, zero, suc, ◌+◌, ◌-◌, ◌≤◌, Bool, true, false, add-zero, drop-drop, List, [], ◌∷◌, ◌++◌, refl, sym, ◌∙◌, ap, subst, arith, length, take, drop, inl, inr, if◌then◌else◌}
use Rattle.std.proofs.lemmas.Bool.{cases_Bool, ne_eqb, eqb-true, eq-eqb}
use Rattle.std.proofs.lemmas.List.{append_assoc, length-append, take_all, length-drop}
use Rattle.std.proofs.Math.Seq.{take-append_seam, drop-append_seam}
use Rattle.std.specs.List.{slice_range}
use Rattle.text_lines.specs.Unread.{Unread}
use Rattle.text_lines.specs.Lines.{TextLine, lines_of, lines_left, line_octets, octets_of, text_line, AreLines, IsFirstLine}
use Rattle.text_lines.specs.declared.line.Line.{Line}
use Rattle.text_lines.proofs.Slices.{length-slice}
use Rattle.header_fields.proofs.Continuations.{length_between}
use Rattle.text_lines.proofs.Broken.{lines_of-octets_of, AreLines-lines_of}
use Rattle.header_fields.specs.Header.{is_empty, line_length, header_length, header_of, body_start_of}
use Rattle.header_fields.proofs.Alone.{header_alone}
use Rattle.header_fields.proofs.Lengths.{body_start_within}
use Rattle.mime_tree.specs.PartTree.{Part}
use Rattle.mime_tree.specs.Enclosing.{ends_any, first_ends_any, octets_before}
use Rattle.mime_tree.specs.OpenParts.{OpenPart, boundaries_in, cut, end_from, finished, break_alone}
use Rattle.mime_tree.proofs.Enclosing.{one_line, cut_hit, cut_last, cut_on, lines_after}
use Rattle.mime_tree.proofs.Ahead.{none_meet, empty_ends_no, end_step, end_any, finished_step, finished_any}
use Rattle.mime_tree.proofs.Hits.{break_are, past_break}

-- ---- through the lines of a header

-- the lines after the first
after_line : (line : TextLine) (lines : List TextLine) (n : ℕ) → AreLines (line ∷ lines) → lines_of (drop (line_length line + n) (octets_of (line ∷ lines))) ≡ lines_of (drop n (octets_of lines))
after_line line lines n are =
    let long : length (line_octets line) ≡ line_length line = length-append line.content line.break in
    let one : drop (line_length line) (line_octets line ++ octets_of lines) ≡ octets_of lines = ap (λ m. drop m (line_octets line ++ octets_of lines)) (sym long) ∙ drop-append_seam (line_octets line) (octets_of lines) in
    let swapped : line_length line + n ≡ n + line_length line = omega arith in
    ap lines_of (ap (λ m. drop m (line_octets line ++ octets_of lines)) swapped ∙ rest n one) where
      rest : (n : ℕ) → drop (line_length line) (line_octets line ++ octets_of lines) ≡ octets_of lines → drop (n + line_length line) (line_octets line ++ octets_of lines) ≡ drop n (octets_of lines)
      rest n one =
          let turned : n + line_length line ≡ line_length line + n = omega arith in
          ap (λ m. drop m (line_octets line ++ octets_of lines)) turned ∙ sym (drop-drop n (line_length line) (line_octets line ++ octets_of lines)) ∙ ap (drop n) one

-- its break, and the lines after it
from_break : (around : List (List ℕ)) (line : TextLine) (lines : List TextLine) → AreLines (line ∷ lines) → first_ends_any around lines ≡ true
    → lines_of (drop (length line.content) (octets_of (line ∷ lines))) ≡ break_alone line ∷ lines
from_break around line lines are hit =
    ap lines_of (ap (drop (length line.content)) (append_assoc line.content line.break (octets_of lines)) ∙ drop-append_seam line.content (line.break ++ octets_of lines))
    ∙ lines_of-octets_of (break_alone line ∷ lines) (break_are around line lines are hit)

header_one : (content : List ℕ) → header_length (one_line content) ≡ length content
header_one [] = refl
header_one (octet ∷ content) =
    let some : is_empty (record { content = octet ∷ content; break = [] }) ≡ false = ne_eqb (suc (length content)) 0 (λ e. cc) in
    rw some (omega arith)

-- what no line changes that ends no part is the same after a header
pub through_header : {X : Type 0} (around : List (List ℕ)) (ahead : ℕ → ℕ → List TextLine → X)
    → ((place end : ℕ) (line : TextLine) (lines : List TextLine) → AreLines (line ∷ lines) → ends_any around line.content ≡ false → ahead place end (line ∷ lines) ≡ ahead (place + line_length line) (place + length line.content) lines)
    → ((place end other : ℕ) (lines : List TextLine) → first_ends_any around lines ≡ false → ahead place end lines ≡ ahead place other lines)
    → (lines : List TextLine) (place end : ℕ) → AreLines lines
    → ahead place end lines ≡ ahead (place + header_length (cut around lines)) end (lines_of (drop (header_length (cut around lines)) (octets_of lines)))
through_header around ahead step any [] place end are = sym (ap (λ n. ahead n end []) (add-zero place))
through_header around ahead step any (line ∷ lines) place end are =
    let later_are : AreLines lines = lines_after line lines are in
    let here = place + length line.content in
    let after = place + line_length line in
    let whole : List TextLine = line ∷ lines in
    let rest = through_header around ahead step any lines after end later_are in
    elim (cases_Bool (ends_any around line.content)) [
      | inl hit ↦
          let none : 0 ≡ header_length (cut around whole) = sym (ap header_length (cut_hit around line lines hit)) in
          sym (ap (λ n. ahead n end whole) (add-zero place))
          ∙ ap (ahead (place + 0) end) (sym (lines_of-octets_of whole are))
          ∙ ap (λ n. ahead (place + n) end (lines_of (drop n (octets_of whole)))) none
      | inr other ↦ elim (cases_Bool (first_ends_any around lines)) [
        | inl hit ↦
            let long : length line.content ≡ header_length (cut around whole) = sym (ap header_length (cut_last around line lines are other hit) ∙ header_one line.content) in
            step place end line lines are other
            ∙ ap (λ n. ahead n here lines) (past_break place line)
            ∙ ap (λ n. ahead (here + line_length (break_alone line)) n lines) (sym (add-zero here))
            ∙ sym (step here end (break_alone line) lines (break_are around line lines are hit) (empty_ends_no around))
            ∙ ap (ahead here end) (sym (from_break around line lines are hit))
            ∙ ap (λ n. ahead (place + n) end (lines_of (drop n (octets_of whole)))) long
        | inr later ↦
            let moved : ahead place end whole ≡ ahead after end lines = step place end line lines are other ∙ any after here end lines later in
            elim (cases_Bool (is_empty line)) [
              | inl empty ↦
                  let long : line_length line ≡ header_length (cut around whole) = sym (ap header_length (cut_on around line lines are other later) ∙ rw empty refl) in
                  let same : lines ≡ lines_of (drop (line_length line) (octets_of whole)) =
                  sym (ap (λ n. lines_of (drop n (octets_of whole))) (sym (add-zero (line_length line))) ∙ after_line line lines 0 are ∙ lines_of-octets_of lines later_are) in
                  moved ∙ ap (ahead after end) same ∙ ap (λ n. ahead (place + n) end (lines_of (drop n (octets_of whole)))) long
              | inr some ↦
                  let more = header_length (cut around lines) in
                  let long : line_length line + more ≡ header_length (cut around whole) = sym (ap header_length (cut_on around line lines are other later) ∙ rw some refl) in
                  let far : after + more ≡ place + (line_length line + more) = omega arith in
                  moved ∙ rest ∙ ap (λ n. ahead n end (lines_of (drop more (octets_of lines)))) far
                  ∙ ap (ahead (place + (line_length line + more)) end) (sym (after_line line lines more are))
                  ∙ ap (λ n. ahead (place + n) end (lines_of (drop n (octets_of whole)))) long
            ]
      ]
    ]

pub finished_through : (opened : List OpenPart) (parts : List Part) (lines : List TextLine) (place end : ℕ) → AreLines lines
    → let n = header_length (cut (boundaries_in [] opened) lines) in
    finished false [] place end lines opened parts ≡ finished false [] (place + n) end (lines_of (drop n (octets_of lines))) opened parts
finished_through opened parts lines place end are =
    through_header (boundaries_in [] opened) (λ p e ls. finished false [] p e ls opened parts)
    (λ p e line ls a other. finished_step false [] p e line ls opened parts a refl (none_meet opened [] line.content other))
    (λ p e o ls none. finished_any opened [] p e o ls parts none) lines place end are

pub end_through : (around : List (List ℕ)) (lines : List TextLine) (place end : ℕ) → AreLines lines
    → let n = header_length (cut around lines) in
    end_from around place end lines ≡ end_from around (place + n) end (lines_of (drop n (octets_of lines)))
end_through around lines place end are =
    through_header around (end_from around) (λ p e line ls a other. end_step around p e line ls other) (λ p e o ls none. end_any around p e o ls none) lines place end are

-- ---- the octets of a part

-- they begin as the lines do
before_first : (around : List (List ℕ)) (lines : List TextLine) → (rest : List ℕ) × (octets_of lines ≡ octets_before around lines ++ rest)
before_first around [] = ([], refl)
before_first around (line ∷ lines) = elim (cases_Bool (ends_any around line.content)) [
  | inl ends ↦ rw ends (octets_of (line ∷ lines), refl)
  | inr more ↦ elim (cases_Bool (first_ends_any around lines)) [
    | inl last ↦ rw (more, last) (line.break ++ octets_of lines, append_assoc line.content line.break (octets_of lines))
    | inr other ↦
        let later = before_first around lines in
        rw (more, other) (later.0, ap (λ (x : List ℕ). line_octets line ++ x) later.1 ∙ sym (append_assoc (line_octets line) (octets_before around lines) later.0))
  ]
]

pub taken_before : (around : List (List ℕ)) (lines : List TextLine) → take (length (octets_before around lines)) (octets_of lines) ≡ octets_before around lines
taken_before around lines =
    let first = before_first around lines in
    ap (take (length (octets_before around lines))) first.1 ∙ take-append_seam (octets_before around lines) first.0

first_nothing : (around : List (List ℕ)) (lines : List TextLine) → first_ends_any around lines ≡ true → octets_before around lines ≡ []
first_nothing around [] hit = refl
first_nothing around (line ∷ lines) hit = rw hit refl

-- they end where the part does
pub raw_taken : (around : List (List ℕ)) (place end : ℕ) (lines : List TextLine) → end ≤ place → take (end_from around place end lines - place) (octets_of lines) ≡ octets_before around lines
raw_taken around place end lines le = elim (cases_Bool (first_ends_any around lines)) [
  | inl hit ↦
      let none : end - place ≡ 0 = omega arith in
      rw (hit, none) (sym (first_nothing around lines hit))
  | inr later ↦
      let long : place + length (octets_before around lines) - place ≡ length (octets_before around lines) = omega arith in
      rw (later, long) (taken_before around lines)
]

-- its header is that of its area
pub header_taken : (around : List (List ℕ)) (lines : List TextLine) → header_of (take (header_length (cut around lines)) (octets_of lines)) ≡ header_of (octets_before around lines)
header_taken around lines =
    let raw = octets_before around lines in
    let n = body_start_of raw in
    let first = before_first around lines in
    ap (λ (t : List ℕ). header_of (take n t)) first.1 ∙ ap header_of (taken_left raw first.0 n (body_start_within raw)) ∙ header_alone raw where
      taken_left : (xs ys : List ℕ) (n : ℕ) → n ≤ length xs → take n (xs ++ ys) ≡ take n xs
      taken_left xs ys zero le = refl
      taken_left [] ys (suc n) le = absurd (omega arith)
      taken_left (x ∷ xs) ys (suc n) le = ap (λ (t : List ℕ). x ∷ t) (taken_left xs ys n (omega arith))

-- ---- where a header ends

-- by the lines that are left
abbrev pub header_from : List (List ℕ) → ℕ → ℕ → List TextLine → ℕ
header_from around place end lines = if first_ends_any around lines then end else place + header_length (cut around lines)

header_here : (around : List (List ℕ)) (place end : ℕ) (line : TextLine) (lines : List TextLine) → ends_any around line.content ≡ false
    → header_from around place end (line ∷ lines) ≡ place + header_length (cut around (line ∷ lines))
header_here around place end line lines other = ap (λ b. if b then end else place + header_length (cut around (line ∷ lines))) other

header_hit : (around : List (List ℕ)) (place end : ℕ) (lines : List TextLine) → first_ends_any around lines ≡ true → header_from around place end lines ≡ end
header_hit around place end lines hit = ap (λ b. if b then end else place + header_length (cut around lines)) hit

header_later : (around : List (List ℕ)) (place end : ℕ) (lines : List TextLine) → first_ends_any around lines ≡ false → header_from around place end lines ≡ place + header_length (cut around lines)
header_later around place end lines later = ap (λ b. if b then end else place + header_length (cut around lines)) later

-- a line that isn't empty, and ends no part
pub header_more : (around : List (List ℕ)) (place end : ℕ) (line : TextLine) (lines : List TextLine) → AreLines (line ∷ lines) → ends_any around line.content ≡ false → is_empty line ≡ false
    → header_from around place end (line ∷ lines) ≡ header_from around (place + line_length line) (place + length line.content) lines
header_more around place end line lines are other some =
    let here = place + length line.content in
    let after = place + line_length line in
    elim (cases_Bool (first_ends_any around lines)) [
      | inl hit ↦ header_here around place end line lines other
          ∙ ap (λ n. place + n) (ap header_length (cut_last around line lines are other hit) ∙ header_one line.content)
          ∙ sym (header_hit around after here lines hit)
      | inr later ↦
          let long : header_length (line ∷ cut around lines) ≡ line_length line + header_length (cut around lines) = rw some refl in
          let far : place + (line_length line + header_length (cut around lines)) ≡ after + header_length (cut around lines) = omega arith in
          header_here around place end line lines other
          ∙ ap (λ n. place + n) (ap header_length (cut_on around line lines are other later) ∙ long) ∙ far
          ∙ sym (header_later around after here lines later)
    ]

-- an empty one
pub header_stops : (around : List (List ℕ)) (place end : ℕ) (line : TextLine) (lines : List TextLine) → AreLines (line ∷ lines) → is_empty line ≡ true
    → header_from around place end (line ∷ lines) ≡ (if first_ends_any around lines then place + length line.content else place + line_length line)
header_stops around place end line lines are empty =
    let none : line.content ≡ [] = no_content line.content (eqb-true (length line.content) 0 empty) in
    let other : ends_any around line.content ≡ false = ap (ends_any around) none ∙ empty_ends_no around in
    elim (cases_Bool (first_ends_any around lines)) [
      | inl hit ↦ header_here around place end line lines other
          ∙ ap (λ n. place + n) (ap header_length (cut_last around line lines are other hit) ∙ header_one line.content)
          ∙ sym (ap (λ b. if b then place + length line.content else place + line_length line) hit)
      | inr later ↦
          let long : header_length (line ∷ cut around lines) ≡ line_length line = rw empty refl in
          header_here around place end line lines other
          ∙ ap (λ n. place + n) (ap header_length (cut_on around line lines are other later) ∙ long)
          ∙ sym (ap (λ b. if b then place + length line.content else place + line_length line) later)
    ] where
      no_content : (content : List ℕ) → length content ≡ 0 → content ≡ []
      no_content [] e = refl
      no_content (octet ∷ content) e = absurd (omega arith)

pub header_hits : (around : List (List ℕ)) (place end : ℕ) (line : TextLine) (lines : List TextLine) → ends_any around line.content ≡ true → header_from around place end (line ∷ lines) ≡ end
header_hits around place end line lines hit = header_hit around place end (line ∷ lines) hit

-- ---- by the lines of a text

record Taken (text : List ℕ) (line : Line) (old new : Unread) : Type 0 where
  pub first : TextLine
  pub are : AreLines (first ∷ lines_left new)
  pub left : lines_left old ≡ first ∷ lines_left new
  pub content : first.content ≡ slice_range text line.start line.end
  pub end : old.place + length first.content ≡ line.end
  pub stop : old.place + line_length first ≡ line.stop
  pub after : new.place ≡ line.stop

taken_of : (text : List ℕ) (line : Line) (old new : Unread) → old.text ≡ text → IsFirstLine old line new → Taken text line old new
taken_of text line old new same is =
    let here = is.here in
    let long = length-slice old.text line.start line.end here.end_after_start (omega (arith, here.stop_after_end, here.within)) in
    record {
      first = text_line old.text line;
      are = subst AreLines is.left (AreLines-lines_of (drop old.place old.text));
      left = is.left;
      content = ap (λ (t : List ℕ). slice_range t line.start line.end) same;
      end = omega (arith, long, here.start, here.end_after_start);
      stop = length_between old.text old.place line here;
      after = is.after;
    }

pub header_cut : (around : List (List ℕ)) (text : List ℕ) (line : Line) (old new : Unread) (end : ℕ) → old.text ≡ text → IsFirstLine old line new
    → ends_any around (slice_range text line.start line.end) ≡ true → header_from around old.place end (lines_left old) ≡ end
header_cut around text line old new end same is hit =
    let t = taken_of text line old new same is in
    ap (header_from around old.place end) t.left ∙ header_hits around old.place end t.first (lines_left new) (ap (ends_any around) t.content ∙ hit)

pub header_goes_on : (around : List (List ℕ)) (text : List ℕ) (line : Line) (old new : Unread) (end : ℕ) → old.text ≡ text → IsFirstLine old line new
    → ends_any around (slice_range text line.start line.end) ≡ false → line.start ≢ line.end
    → header_from around old.place end (lines_left old) ≡ header_from around new.place line.end (lines_left new)
header_goes_on around text line old new end same is other some =
    let t = taken_of text line old new same is in
    let none : length t.first.content ≢ 0 = λ e. some (omega (arith, t.end, is.here.start)) in
    ap (header_from around old.place end) t.left
    ∙ header_more around old.place end t.first (lines_left new) t.are (ap (ends_any around) t.content ∙ other) (ne_eqb (length t.first.content) 0 none)
    ∙ ap (λ n. header_from around n (old.place + length t.first.content) (lines_left new)) (t.stop ∙ sym t.after)
    ∙ ap (λ n. header_from around new.place n (lines_left new)) t.end

pub header_ends : (around : List (List ℕ)) (text : List ℕ) (line : Line) (old new : Unread) (end : ℕ) (hits : Bool) → old.text ≡ text → IsFirstLine old line new → line.start ≡ line.end
    → hits ≡ first_ends_any around (lines_of (take (length text - line.stop) (drop line.stop text)))
    → header_from around old.place end (lines_left old) ≡ (if hits then line.end else line.stop)
header_ends around text line old new end hits same is empty next =
    let t = taken_of text line old new same is in
    let none : length t.first.content ≡ 0 = omega (arith, t.end, is.here.start, empty) in
    let rest : take (length text - line.stop) (drop line.stop text) ≡ drop new.place new.text =
    take_all (length text - line.stop) (drop line.stop text) (omega (arith, length-drop line.stop text))
    ∙ ap (λ n. drop n text) (sym t.after) ∙ ap (drop new.place) (sym (is.same_text ∙ same)) in
    let which : first_ends_any around (lines_left new) ≡ hits = sym (next ∙ ap (λ (o : List ℕ). first_ends_any around (lines_of o)) rest) in
    ap (header_from around old.place end) t.left
    ∙ header_stops around old.place end t.first (lines_left new) t.are (eq-eqb (length t.first.content) 0 none)
    ∙ ap (λ b. if b then old.place + length t.first.content else old.place + line_length t.first) which
    ∙ ap (λ n. if hits then n else old.place + line_length t.first) t.end
    ∙ ap (λ n. if hits then line.end else n) t.stop

pub header_within : (around : List (List ℕ)) (lines : List TextLine) → header_length (cut around lines) ≤ length (octets_of lines)
header_within around lines =
    let first = before_first around lines in
    omega (arith, body_start_within (octets_before around lines), ap length first.1, length-append (octets_before around lines) first.0)
