-- The lines that continue a line.
use Rattle.std.proofs.Common.{◌≡◌, ◌≢◌, ℕ, ◌+◌, ◌-◌, ◌<◌, ◌≤◌, true, false, List, [], ◌∷◌, ◌++◌, suc, refl, sym, ◌∙◌, ap, arith, length, drop, get_or, inl, inr, ◌==◌, ◌||◌, add-one}
use Rattle.std.specs.List.{slice_range}
use Rattle.std.proofs.lemmas.Bool.{eqb-true, ne_eqb, cases_Bool, true≢false, cases_lt}
use Rattle.std.proofs.lemmas.List.{append_assoc}
use Rattle.std.proofs.lemmas.List.Folds.{list_any_at}
use Rattle.std.proofs.Math.Bool.{or-true}
use Rattle.std.proofs.Math.Seq.{drop-cons}
use Rattle.octets.specs.Blank.{is_blank}
use Rattle.text_lines.specs.Lines.{TextLine, lines_left, text_line, IsFirstLine, IsLineAt}
use Rattle.text_lines.specs.declared.line.Line.{Line}
use Rattle.text_lines.proofs.Slices.{slice_join, length-slice, get_or-slice, one_at, two_at}
use Rattle.text_lines.proofs.FirstLine.{no_break_at, no_break_of}
use Rattle.header_fields.specs.Header.{is_empty, line_length, begins_blank, is_name_octet, is_field_line, continuation, fields_in, has_feed, header_lines, header_length, is_continued, without_breaks}
use Rattle.text_lines.specs.Unread.{Unread}
use Rattle.header_fields.specs.Reading.{IsContinuation, IsContinuing}
use Rattle.header_fields.proofs.Breaks.{without_breaks-append, without_breaks_none}

-- ---- a line that begins with SP or TAB

blank_not_feed : (octet : ℕ) → is_blank octet ≡ true → octet ≢ 10
blank_not_feed octet blank e = true≢false (sym blank ∙ (rw e refl))

blank_not_cr : (octet : ℕ) → is_blank octet ≡ true → octet ≢ 13
blank_not_cr octet blank e = true≢false (sym blank ∙ (rw e refl))

blank_not_in_name : (octet : ℕ) → is_blank octet ≡ true → is_name_octet octet ≡ false
blank_not_in_name octet blank = elim (cases_Bool (octet == 32)) [
  | inl sp ↦ rw (eqb-true octet 32 sp) refl
  | inr other ↦ rw (eqb-true octet 9 (rw other at blank)) refl
]

pub not_empty : (line : TextLine) → begins_blank line.content ≡ true → is_empty line ≡ false
not_empty line blank = go line.content blank where
  go : (content : List ℕ) → begins_blank content ≡ true → (length content == 0) ≡ false
  go [] blank = absurd (true≢false (sym blank))
  go (x ∷ xs) blank = ne_eqb _ 0 (omega arith)

pub not_field : (content : List ℕ) → begins_blank content ≡ true → is_field_line content ≡ false
not_field [] blank = refl
not_field (octet ∷ content) blank = rw (blank_not_in_name octet blank) refl

pub begins_some : (content : List ℕ) → begins_blank content ≡ true → 0 < length content
begins_some [] blank = absurd (true≢false (sym blank))
begins_some (octet ∷ content) blank = omega arith

-- what such a line adds to the header's fields, to its length and to the line before
fields_more : (line : TextLine) (lines : List TextLine) → begins_blank line.content ≡ true → fields_in (header_lines (line ∷ lines)) ≡ fields_in (header_lines lines)
fields_more line lines blank = rw (not_empty line blank, not_field line.content blank) refl

length_more : (line : TextLine) (lines : List TextLine) → begins_blank line.content ≡ true → header_length (line ∷ lines) ≡ line_length line + header_length lines
length_more line lines blank = rw (not_empty line blank) refl

pub continuation_more : (line : TextLine) (lines : List TextLine) → begins_blank line.content ≡ true → continuation (line ∷ lines) ≡ line.content ++ continuation lines
continuation_more line lines blank = rw blank refl

-- ---- by places

-- a line that begins with SP or TAB has an octet before its break
some_content : (text : List ℕ) (place : ℕ) (line : Line) → IsLineAt text place line → is_blank (get_or text place 0) ≡ true → line.start < line.end
some_content text place line at blank = elim (cases_lt line.start line.end) [
  | inl lt ↦ lt
  | inr none ↦ absurd (
      let same : place ≡ line.end = omega (arith, at.start, at.end_after_start) in
      let blank_end = rw same at blank in
      elim at.break [
        | inl (stops, lf, bare) ↦ blank_not_feed (get_or text line.end 0) blank_end lf
        | inr (inl (stops, cr, lf)) ↦ blank_not_cr (get_or text line.end 0) blank_end cr
        | inr (inr (stops, ended)) ↦ omega (arith, at.some)
      ])
]

begins_at : (text : List ℕ) (place : ℕ) → place < length text → begins_blank (drop place text) ≡ true → is_blank (get_or text place 0) ≡ true
begins_at text place within begins = rw (drop-cons text place 0) at begins

content_begins : (text : List ℕ) (place : ℕ) (line : Line) → IsLineAt text place line → is_blank (get_or text place 0) ≡ true
    → begins_blank (slice_range text line.start line.end) ≡ true
content_begins text place line at blank =
    let some = some_content text place line at blank in
    let more : line.end - place ≡ suc (line.end - place - 1) = omega (arith, at.start) in
    let here : place < length text = omega (arith, at.start, at.some, at.within) in
    rw (at.start, drop-cons text place 0, more) blank

-- the lines from a line on
pub lines_from : (text : List ℕ) (line : Line) (old new : Unread) → old.text ≡ text → IsFirstLine old line new → lines_left old ≡ text_line text line ∷ lines_left new
lines_from text line old new same_text first = first.left ∙ ap (λ t. text_line t line ∷ lines_left new) same_text

-- the octets of a line, its break counted
pub length_between : (text : List ℕ) (place : ℕ) (line : Line) → IsLineAt text place line → place + line_length (text_line text line) ≡ line.stop
length_between text place line at =
    let content = length-slice text line.start line.end at.end_after_start (omega (arith, at.stop_after_end, at.within)) in
    let break = length-slice text line.end line.stop at.stop_after_end at.within in
    omega (arith, content, break, at.start, at.end_after_start, at.stop_after_end)

-- the break of a line, before a text that begins no break of its own
break_before : (text : List ℕ) (line : Line) (start : ℕ) (more : List ℕ) → IsLineAt text line.start line → line.start < line.end → line.stop < length text → start ≤ line.end
    → without_breaks (slice_range text start line.end ++ (slice_range text line.end line.stop ++ more))
    ≡ without_breaks (slice_range text start line.end) ++ without_breaks more
break_before text line start more at some within high =
    let raw = slice_range text start line.end in
    let long = length-slice text start line.end high (omega (arith, at.stop_after_end)) in
    elim at.break [
      | inl (stops, lf, bare) ↦
          let one : line.stop - line.end ≡ 1 = omega arith in
          rw (one, one_at text line.end (omega arith), lf) (without_breaks-append raw (10 ∷ more)
          (λ k e. no_break_of (get_or raw k 0) (10 ∷ more) (λ cr. bare (start + k) (omega arith) (omega arith) (sym (get_or-slice text start line.end k (omega arith)) ∙ cr))))
      | inr (inl (stops, cr, lf)) ↦
          let two : line.stop - line.end ≡ 2 = omega arith in
          let feed = rw add-one at lf in
          rw (two, two_at text line.end (omega arith), cr, feed) (without_breaks-append raw (13 ∷ 10 ∷ more)
          (λ k e. no_break_at (get_or raw k 0) 13 (10 ∷ more) (omega arith)))
      | inr (inr (stops, ended)) ↦ absurd (omega arith)
    ]

-- a line's octets have no break
content_without : (text : List ℕ) (line : Line) → IsLineAt text line.start line → (start : ℕ) → line.start ≤ start → start ≤ line.end
    → without_breaks (slice_range text start line.end) ≡ slice_range text start line.end
content_without text line at start low high =
    let long = length-slice text start line.end high (omega (arith, at.stop_after_end, at.within)) in
    without_breaks_none (slice_range text start line.end)
    (λ k lt e. at.no_feed (start + k) (omega arith) (omega arith) (sym (get_or-slice text start line.end k (omega arith)) ∙ e))

-- a line more, after one that it continues
value_more : (text : List ℕ) (last next : Line) (start : ℕ) → IsLineAt text last.start last → last.start < last.end → IsLineAt text last.stop next → start ≤ last.end
    → without_breaks (slice_range text start next.end) ≡ without_breaks (slice_range text start last.end) ++ slice_range text next.start next.end
value_more text last next start at some following high =
    let from_end : slice_range text last.end last.stop ++ slice_range text next.start next.end ≡ slice_range text last.end next.end =
    rw (following.start) (slice_join text last.end last.stop next.end at.stop_after_end (omega (arith, following.start, following.end_after_start))) in
    let whole = slice_join text start last.end next.end high (omega (arith, at.stop_after_end, following.start, following.end_after_start)) in
    let there = content_without text next (rw (← following.start) at following) next.start (omega arith) following.end_after_start in
    rw (← whole, ← from_end) (break_before text last start (slice_range text next.start next.end) at some (omega (arith, following.start, following.some, following.within)) high ∙ rw there refl)

-- a stretch with the break of a line in it has a line feed
feed_within : (text : List ℕ) (start end feed : ℕ) → start ≤ feed → feed < end → end ≤ length text → get_or text feed 0 ≡ 10 → has_feed (slice_range text start end) ≡ true
feed_within text start end feed low high within lf =
    let at : start + (feed - start) ≡ feed = omega arith in
    let here : get_or (slice_range text start end) (feed - start) 0 ≡ 10 =
    get_or-slice text start end (feed - start) (omega arith) ∙ ap (λ n. get_or text n 0) at ∙ lf in
    list_any_at (λ octet. octet == 10) (slice_range text start end) (feed - start) 0
    (omega (arith, length-slice text start end (omega arith) within)) (rw here refl)

feed_between : (text : List ℕ) (last next : Line) (start : ℕ) → IsLineAt text last.start last → IsLineAt text last.stop next → next.start < next.end → start ≤ last.end
    → has_feed (slice_range text start next.end) ≡ true
feed_between text last next start at following some high =
    let within : next.end ≤ length text = omega (arith, following.stop_after_end, following.within) in
    elim at.break [
      | inl (stops, lf, bare) ↦ feed_within text start next.end last.end high (omega (arith, following.start)) within lf
      | inr (inl (stops, cr, lf)) ↦ feed_within text start next.end (last.end + 1) (omega arith) (omega (arith, following.start)) within lf
      | inr (inr (stops, ended)) ↦ absurd (omega (arith, following.start, following.some, following.within))
    ]

-- a text that goes on after a line has one
pub feed_after : (text : List ℕ) (place : ℕ) (line : Line) → IsLineAt text place line → line.stop < length text → has_feed text ≡ true
feed_after text place line at more = elim at.break [
  | inl (stops, lf, bare) ↦ list_any_at (λ octet. octet == 10) text line.end 0 (omega arith) (rw lf refl)
  | inr (inl (stops, cr, lf)) ↦ list_any_at (λ octet. octet == 10) text (line.end + 1) 0 (omega arith) (rw lf refl)
  | inr (inr (stops, ended)) ↦ absurd (omega arith)
]

without_feeds : (text : List ℕ) → ((k : ℕ) → k < length text → get_or text k 0 ≢ 10) → has_feed text ≡ false
without_feeds [] none = refl
without_feeds (octet ∷ text) none =
    rw (ne_eqb octet 10 (none 0 (omega arith)), without_feeds text (λ k lt. none (suc k) (omega arith))) refl

-- one in a line has none
feed_none : (text : List ℕ) (line : Line) → IsLineAt text line.start line → (start : ℕ) → line.start ≤ start → start ≤ line.end
    → has_feed (slice_range text start line.end) ≡ false
feed_none text line at start low high =
    let long = length-slice text start line.end high (omega (arith, at.stop_after_end, at.within)) in
    without_feeds (slice_range text start line.end)
    (λ k lt e. at.no_feed (start + k) (omega arith) (omega arith) (sym (get_or-slice text start line.end k (omega arith)) ∙ e))

-- one line more that continues the line
pub continuing_more : (text : List ℕ) (line last next : Line) (initial old new : Unread) → IsLineAt text last.start last → last.start < last.end
    → old.text ≡ text → old.place ≡ last.stop → IsContinuation old next new
    → IsContinuing text line initial last.end old → IsContinuing text line initial next.end new
continuing_more text line last next initial old new at some same_text place more so_far =
    let here = rw same_text at more.first.here in
    let within : old.place < length text = omega (arith, here.start, here.some, here.within) in
    let blank = begins_at text old.place within (rw same_text at more.blank) in
    let begins = content_begins text old.place next here blank in
    let left = lines_from text next old new same_text more.first in
    record {
      after = omega (arith, so_far.after, here.start, here.end_after_start, place, at.stop_after_end);
      forward = omega (arith, so_far.forward, here.start, here.some, more.first.after);
      fields = sym (ap (λ x. fields_in (header_lines x)) left ∙ fields_more (text_line text next) (lines_left new) begins) ∙ so_far.fields;
      body =
          let long = ap header_length left ∙ length_more (text_line text next) (lines_left new) begins in
          omega (arith, long, length_between text old.place next here, more.first.after, so_far.body);
      value = λ start low high.
          let more_value = value_more text last next start at some (rw place at here) (omega (arith, so_far.after)) in
          let joined = ap continuation left ∙ continuation_more (text_line text next) (lines_left new) begins in
          rw (more_value, append_assoc, ← joined) (so_far.value start low high);
      folded = λ start low high.
          let feed = feed_between text last next start at (rw place at here) (some_content text old.place next here blank) (omega (arith, so_far.after)) in
          let continued : is_continued (lines_left old) ≡ true = ap is_continued left ∙ begins in
          let all : is_continued (lines_left initial) ≡ true = sym (so_far.folded start low high) ∙ ap (λ c. has_feed (slice_range text start last.end) || c) continued ∙ or-true (has_feed (slice_range text start last.end)) in
          ap (λ f. f || is_continued (lines_left new)) feed ∙ sym all;
    }

-- such a line stands at its start, and has octets
pub continuation_stands : (text : List ℕ) (next : Line) (old new : Unread) → old.text ≡ text → IsContinuation old next new
    → IsLineAt text next.start next × (next.start < next.end)
continuation_stands text next old new same_text more =
    let here = rw same_text at more.first.here in
    let within : old.place < length text = omega (arith, here.start, here.some, here.within) in
    (rw (← here.start) at here, some_content text old.place next here (begins_at text old.place within (rw same_text at more.blank)))

-- the first line
pub continuing_none : (text : List ℕ) (line : Line) (initial : Unread) → IsLineAt text line.start line → IsContinuing text line initial line.end initial
continuing_none text line initial at = record {
  after = omega arith;
  forward = omega arith;
  fields = refl;
  body = refl;
  value = λ start low high. rw (content_without text line at start low high) refl;
  folded = λ start low high. rw (feed_none text line at start low high) refl;
}
