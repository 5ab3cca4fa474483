-- What reading a line adds to a header.
use Rattle.std.proofs.Common.{◌≡◌, ◌≢◌, ℕ, ◌+◌, ◌-◌, ◌<◌, ◌≤◌, true, false, List, [], ◌∷◌, ◌++◌, ◌||◌, refl, sym, ◌∙◌, ap, arith, length, inl, inr}
use Rattle.std.specs.List.{slice_range}
use Rattle.std.proofs.Math.Bool.{or-false}
use Rattle.std.proofs.lemmas.Bool.{cases_Bool, ne_eqb}
use Rattle.std.proofs.lemmas.List.{append_assoc, append-nil, length-append}
use Rattle.octets.specs.Blank.{without_outer_blanks}
use Rattle.text_lines.specs.Unread.{Unread}
use Rattle.text_lines.specs.Lines.{TextLine, lines_left, text_line, IsLineAt, IsFirstLine}
use Rattle.text_lines.specs.declared.line.Line.{Line}
use Rattle.text_lines.proofs.Slices.{length-slice}
use Rattle.header_fields.specs.Fields.{Field}
use Rattle.header_fields.specs.Header.{is_empty, begins_blank, is_field_line, name_of, after_colon, continuation, field_of, has_feed, is_continued, fields_in, header_lines, header_length, line_length, without_breaks}
use Rattle.header_fields.specs.Reading.{fields_left, body_left, IsContinued}
use Rattle.header_fields.proofs.Continuations.{begins_some, continuation_more, length_between, lines_from, not_empty}
use Rattle.header_fields.proofs.FieldLines.{after_colon_slice, after_colon_fits}

-- a line with octets before its break
has_content : (text : List ℕ) (place : ℕ) (line : Line) → IsLineAt text place line → line.start < line.end → is_empty (text_line text line) ≡ false
has_content text place line at some =
    ne_eqb (length (slice_range text line.start line.end)) 0
    (λ e. omega (arith, e, length-slice text line.start line.end at.end_after_start (omega (arith, at.stop_after_end, at.within))))

-- the lines that continue a line are none after the header
continuation-header_lines : (lines : List TextLine) → continuation (header_lines lines) ≡ continuation lines
continuation-header_lines [] = refl
continuation-header_lines (line ∷ lines) =
    let more = continuation-header_lines lines in
    elim (cases_Bool (begins_blank line.content)) [
      | inl blank ↦ rw (not_empty line blank, blank, more) refl
      | inr other ↦ elim (cases_Bool (is_empty line)) [
        | inl empty ↦ rw (empty, other) refl
        | inr some ↦ rw (some, other) refl
      ]
    ]

-- the value of the field of a line and of those that continue it
value_taken : (text : List ℕ) (line : Line) (mid new : Unread) (end : ℕ) → IsLineAt text line.start line → IsContinued text line mid end new
    → let content = slice_range text line.start line.end in
    without_breaks (slice_range text (line.end - length (after_colon content)) end) ≡ after_colon content ++ continuation (header_lines (lines_left mid))
value_taken text line mid new end at continued =
    let content = slice_range text line.start line.end in
    let within : line.end ≤ length text = omega (arith, at.stop_after_end, at.within) in
    let long = length-slice text line.start line.end at.end_after_start within in
    let start = line.end - length (after_colon content) in
    let value = continued.so_far.value start (omega (arith, after_colon_fits content)) (omega arith) in
    let whole = sym (append-nil (without_breaks (slice_range text start end))) ∙ (rw continued.none_left at value) in
    whole ∙ ap (λ x. x ++ continuation (lines_left mid)) (after_colon_slice text line.start line.end at.end_after_start within)
    ∙ ap (λ x. after_colon content ++ x) (sym (continuation-header_lines (lines_left mid)))

is_continued-header_lines : (lines : List TextLine) → is_continued (header_lines lines) ≡ is_continued lines
is_continued-header_lines [] = refl
is_continued-header_lines (line ∷ lines) = elim (cases_Bool (begins_blank line.content)) [
  | inl blank ↦ rw (not_empty line blank) refl
  | inr other ↦ elim (cases_Bool (is_empty line)) [
    | inl empty ↦ rw (empty, other) refl
    | inr some ↦ rw some refl
  ]
]

-- what no line continues
none_continued : (lines : List TextLine) → continuation lines ≡ [] → is_continued lines ≡ false
none_continued [] none = refl
none_continued (line ∷ lines) none = elim (cases_Bool (begins_blank line.content)) [
  | inl blank ↦ absurd (
      let long = ap length (sym (continuation_more line lines blank) ∙ none) ∙ refl in
      omega (arith, long, length-append line.content (continuation lines), begins_some line.content blank))
  | inr other ↦ other
]

-- whether its value is folded
folded_taken : (text : List ℕ) (line : Line) (mid new : Unread) (end : ℕ) → IsLineAt text line.start line → IsContinued text line mid end new
    → has_feed (slice_range text (line.end - length (after_colon (slice_range text line.start line.end))) end) ≡ is_continued (header_lines (lines_left mid))
folded_taken text line mid new end at continued =
    let content = slice_range text line.start line.end in
    let within : line.end ≤ length text = omega (arith, at.stop_after_end, at.within) in
    let long = length-slice text line.start line.end at.end_after_start within in
    let start = line.end - length (after_colon content) in
    let feed = has_feed (slice_range text start end) in
    let folded = continued.so_far.folded start (omega (arith, after_colon_fits content)) (omega arith) in
    sym (or-false feed) ∙ sym (ap (λ c. feed || c) (none_continued (lines_left new) continued.none_left)) ∙ folded
    ∙ sym (is_continued-header_lines (lines_left mid))

-- a line was read, and the lines that continue it
pub record Taken (text : List ℕ) (line : Line) (old mid new : Unread) (end : ℕ) : Type 0 where
  pub same_text : old.text ≡ text
  pub first : IsFirstLine old line mid
  pub some : line.start < line.end
  pub continued : IsContinued text line mid end new

pub taken_of : (text : List ℕ) (line : Line) (old mid new : Unread) (end : ℕ) → old.text ≡ text → IsFirstLine old line mid → line.start ≢ line.end
    → IsContinued text line mid end new → Taken text line old mid new end
taken_of text line old mid new end same_text first other continued =
    record { same_text = same_text; first = first; some = omega (arith, first.here.end_after_start, other); continued = continued }

-- where it stands, and that it isn't the empty line after the header
taken_at : (text : List ℕ) (line : Line) (old mid new : Unread) (end : ℕ) → Taken text line old mid new end → IsLineAt text line.start line
taken_at text line old mid new end taken = let here = rw taken.same_text at taken.first.here in (rw (← here.start) at here)

taken_some : (text : List ℕ) (line : Line) (old mid new : Unread) (end : ℕ) → Taken text line old mid new end → is_empty (text_line text line) ≡ false
taken_some text line old mid new end taken = has_content text line.start line (taken_at text line old mid new end taken) taken.some

fields_before : (text : List ℕ) (line : Line) (old mid new : Unread) (end : ℕ) → Taken text line old mid new end
    → fields_left old ≡ fields_in (text_line text line ∷ header_lines (lines_left mid))
fields_before text line old mid new end taken =
    let some = taken_some text line old mid new end taken in
    ap (λ x. fields_in (header_lines x)) (lines_from text line old mid taken.same_text taken.first) ∙ (rw some refl)

-- what is left gets less
pub taken_falls : (text : List ℕ) (line : Line) (old mid new : Unread) (end : ℕ) → Taken text line old mid new end → length text - new.place < length text - old.place
taken_falls text line old mid new end taken =
    let here = rw taken.same_text at taken.first.here in
    omega (arith, here.start, here.some, here.within, taken.first.after, taken.continued.so_far.forward)

-- its field, and those left
pub field_taken : (text : List ℕ) (line : Line) (old mid new : Unread) (end : ℕ) (items : List Field) (field : Field) → Taken text line old mid new end
    → let content = slice_range text line.start line.end in
    let after = slice_range text (line.end - length (after_colon content)) end in
    (is_field_line content ≡ true) × (field ≡ record { name = name_of content; value = without_outer_blanks (without_breaks after); folded = has_feed after })
    → (items ++ field ∷ []) ++ fields_left new ≡ items ++ fields_left old
field_taken text line old mid new end items field taken (is, made) =
    let content = slice_range text line.start line.end in
    let value = value_taken text line mid new end (taken_at text line old mid new end taken) taken.continued in
    let folded = folded_taken text line mid new end (taken_at text line old mid new end taken) taken.continued in
    let after = slice_range text (line.end - length (after_colon content)) end in
    let field_is : field ≡ field_of content (header_lines (lines_left mid)) =
    made
    ∙ ap (λ v. record { name = name_of content; value = without_outer_blanks v; folded = has_feed after }) value
    ∙ ap (λ f. record { name = name_of content; value = without_outer_blanks (after_colon content ++ continuation (header_lines (lines_left mid))); folded = f }) folded in
    let before = fields_before text line old mid new end taken in
    rw (append_assoc, taken.continued.so_far.fields, field_is, before, is) refl

pub line_skipped : (text : List ℕ) (line : Line) (old mid new : Unread) (end : ℕ) → Taken text line old mid new end
    → is_field_line (slice_range text line.start line.end) ≡ false → fields_left new ≡ fields_left old
line_skipped text line old mid new end taken is =
    let before = fields_before text line old mid new end taken in
    rw (taken.continued.so_far.fields, before, is) refl

pub body_kept : (text : List ℕ) (line : Line) (old mid new : Unread) (end : ℕ) → Taken text line old mid new end → body_left new ≡ body_left old
body_kept text line old mid new end taken =
    let some = taken_some text line old mid new end taken in
    let left = lines_from text line old mid taken.same_text taken.first in
    let here = rw taken.same_text at taken.first.here in
    let long : header_length (lines_left old) ≡ line_length (text_line text line) + header_length (lines_left mid) = ap header_length left ∙ (rw some refl) in
    omega (arith, long, length_between text old.place line here, taken.first.after, taken.continued.so_far.body)
