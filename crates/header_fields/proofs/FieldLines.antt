-- The parts of a field line.
use Rattle.std.proofs.Common.{◌≡◌, ℕ, ◌+◌, ◌-◌, ◌≤◌, true, false, List, [], ◌∷◌, ◌++◌, refl, sym, ◌∙◌, ap, arith, length, take, drop, inl, inr, ◌&&◌, nat_lt, Bool, cond, suc}
use Rattle.std.specs.List.{slice_range, prefix_len}
use Rattle.std.proofs.lemmas.Bool.{cases_Bool, ltb-true, lt-ltb, le-ltb, true≢false}
use Rattle.std.proofs.lemmas.List.{take-append-drop, append_assoc, length-append, length-drop}
use Rattle.std.proofs.lemmas.List.Prefix.{end_rest}
use Rattle.std.proofs.lemmas.List.Folds.{length-prefix_len}
use Rattle.std.proofs.lemmas.List.Sums.{take_while-cons}
use Rattle.octets.specs.Blank.{is_blank, without_leading_blanks}
use Rattle.header_fields.specs.Header.{is_name_octet, name_of, after_name, begins_with_colon, is_field_line, after_colon}
use Rattle.text_lines.proofs.Slices.{length-slice, drop-slice, slice_join}
use Rattle.header_fields.specs.Reading.{begins_with_name}

-- a text ends with another
abbrev pub EndsWith : List ℕ → List ℕ → Type 0
EndsWith text end = (before : List ℕ) × (text ≡ before ++ end)

ends_trans : (a b c : List ℕ) → EndsWith a b → EndsWith b c → EndsWith a c
ends_trans a b c (p, ap) (q, bq) = (p ++ q, ap ∙ (rw bq (sym (append_assoc p q c))))

ends-drop : (n : ℕ) (text : List ℕ) → EndsWith text (drop n text)
ends-drop n text = (take n text, sym (take-append-drop n text))

pub ends-trimmed : (text : List ℕ) → EndsWith text (without_leading_blanks text)
ends-trimmed [] = ([], refl)
ends-trimmed (octet ∷ text) = elim (cases_Bool (is_blank octet)) [
  | inl blank ↦ let more = ends-trimmed text in (octet ∷ more.0, rw blank (ap (λ x. octet ∷ x) more.1))
  | inr other ↦ ([], rw other refl)
]

ends-after_name : (line : List ℕ) → EndsWith (drop (prefix_len is_name_octet line) line) (after_name line)
ends-after_name line = ends-trimmed (drop (prefix_len is_name_octet line) line)

ends-after_colon : (line : List ℕ) → EndsWith line (after_colon line)
ends-after_colon line =
    ends_trans line (drop (prefix_len is_name_octet line) line) (after_colon line) (ends-drop (prefix_len is_name_octet line) line)
    (ends_trans (drop (prefix_len is_name_octet line) line) (after_name line) (after_colon line) (ends-after_name line) (ends-drop 1 (after_name line)))

-- what follows the colon is no longer than the line
pub after_colon_fits : (line : List ℕ) → length (after_colon line) ≤ length line
after_colon_fits line = let e = ends-after_colon line in omega (arith, ap length e.1 ∙ length-append e.0 (after_colon line))

-- what follows the colon, by its place in the text
pub after_colon_slice : (text : List ℕ) (start end : ℕ) → start ≤ end → end ≤ length text
    → slice_range text (end - length (after_colon (slice_range text start end))) end ≡ after_colon (slice_range text start end)
after_colon_slice text start end ordered within =
    let line = slice_range text start end in
    let long = length-slice text start end ordered within in
    let fits = after_colon_fits line in
    let e = ends-after_colon line in
    let n = length line - length (after_colon line) in
    let from : start + n ≡ end - length (after_colon line) = omega arith in
    (rw (← from) (sym (drop-slice text start end n (omega arith)))) ∙ end_rest line (after_colon line) e.0 e.1

-- a field line has a name and a colon beside what follows the colon
both_true : (a b : Bool) → (a && b) ≡ true → (a ≡ true) × (b ≡ true)
both_true true b e = (refl, e)
both_true false b e = absurd (true≢false (sym e))

colon_first : (text : List ℕ) → begins_with_colon text ≡ true → length text ≡ length (drop 1 text) + 1
colon_first [] e = absurd (true≢false (sym e))
colon_first (octet ∷ text) e = omega arith

pub field_line_longer : (line : List ℕ) → is_field_line line ≡ true → length (after_colon line) + 2 ≤ length line
field_line_longer line is =
    let n = prefix_len is_name_octet line in
    let parts = both_true (nat_lt 0 (length (name_of line))) (begins_with_colon (after_name line)) is in
    let some = ltb-true 0 (length (name_of line)) parts.0 in
    let colon = colon_first (after_name line) parts.1 in
    let e = ends-after_name line in
    omega (arith, some, colon, length-prefix_len is_name_octet line, length-drop n line, ap length e.1 ∙ length-append e.0 (after_name line))

-- ---- a name of a length

pub name_cons : (x : ℕ) (xs : List ℕ) → is_name_octet x ≡ true → name_of (x ∷ xs) ≡ x ∷ name_of xs
name_cons x xs e = take_while-cons is_name_octet x xs ∙ ap (λ b. cond b (x ∷ name_of xs) []) e

pub name_none : (x : ℕ) (xs : List ℕ) → is_name_octet x ≡ false → name_of (x ∷ xs) ≡ []
name_none x xs e = take_while-cons is_name_octet x xs ∙ ap (λ b. cond b (x ∷ name_of xs) []) e

-- what follows a name
pub rest_cons : (x : ℕ) (xs : List ℕ) → is_name_octet x ≡ true → drop (prefix_len is_name_octet (x ∷ xs)) (x ∷ xs) ≡ drop (prefix_len is_name_octet xs) xs
rest_cons x xs e =
    let n = prefix_len is_name_octet xs in
    let one : prefix_len is_name_octet (x ∷ xs) ≡ suc n = ap (λ b. cond b (1 + n) 0) e ∙ omega arith in
    ap (λ k. drop k (x ∷ xs)) one

pub rest_none : (x : ℕ) (xs : List ℕ) → is_name_octet x ≡ false → drop (prefix_len is_name_octet (x ∷ xs)) (x ∷ xs) ≡ x ∷ xs
rest_none x xs e = ap (λ b. drop (cond b (1 + prefix_len is_name_octet xs) 0) (x ∷ xs)) e

after_cons : (x : ℕ) (xs : List ℕ) → is_name_octet x ≡ true → after_name (x ∷ xs) ≡ after_name xs
after_cons x xs e = ap without_leading_blanks (rest_cons x xs e)

after_none : (x : ℕ) (xs : List ℕ) → is_name_octet x ≡ false → after_name (x ∷ xs) ≡ without_leading_blanks (x ∷ xs)
after_none x xs e = ap without_leading_blanks (rest_none x xs e)

-- a line is longer than what follows its name exactly if it has one
named_longer : (line : List ℕ) → nat_lt (length (drop (prefix_len is_name_octet line) line)) (length line) ≡ nat_lt 0 (length (name_of line))
named_longer [] = refl
named_longer (x ∷ xs) =
    let rest = length-drop (prefix_len is_name_octet xs) xs in
    elim (cases_Bool (is_name_octet x)) [
      | inl passes ↦
          lt-ltb _ _ (omega (arith, ap length (rest_cons x xs passes), rest)) ∙ sym (lt-ltb _ _ (omega (arith, ap length (name_cons x xs passes))))
      | inr fails ↦ le-ltb _ _ (omega (arith, ap length (rest_none x xs fails))) ∙ sym (le-ltb _ _ (omega (arith, ap length (name_none x xs fails))))
    ]

-- whether a line is a field line, by what follows its name
pub field_line_by : (line after : List ℕ) → after ≡ drop (prefix_len is_name_octet line) line
    → (nat_lt (length after) (length line) && begins_with_colon (without_leading_blanks after)) ≡ is_field_line line
field_line_by line after is =
    ap (λ a. nat_lt (length a) (length line) && begins_with_colon (without_leading_blanks a)) is
    ∙ ap (λ b. b && begins_with_colon (after_name line)) (named_longer line)

pub named_whole : (xs ys : List ℕ) → length xs ≤ length (name_of xs) → begins_with_name ys ≡ false → name_of (xs ++ ys) ≡ xs
named_whole [] [] long none = refl
named_whole [] (y ∷ ys) long none = name_none y ys none
named_whole (x ∷ xs) ys long none = elim (cases_Bool (is_name_octet x)) [
  | inl passes ↦ name_cons x (xs ++ ys) passes ∙ ap (λ l. x ∷ l) (named_whole xs ys (omega (arith, long, ap length (name_cons x xs passes))) none)
  | inr fails ↦ absurd (omega (arith, long, ap length (name_none x xs fails)))
]

pub named_long : (xs ys : List ℕ) → length (name_of (xs ++ ys)) ≡ length xs → (begins_with_name ys ≡ false) × (length xs ≤ length (name_of xs))
named_long [] [] same = (refl, omega arith)
named_long [] (y ∷ ys) same = elim (cases_Bool (is_name_octet y)) [
  | inl passes ↦ absurd (omega (arith, same, ap length (name_cons y ys passes)))
  | inr fails ↦ (fails, omega arith)
]
named_long (x ∷ xs) ys same = elim (cases_Bool (is_name_octet x)) [
  | inl passes ↦
      let rest = named_long xs ys (omega (arith, same, ap length (name_cons x (xs ++ ys) passes))) in
      (rest.0, omega (arith, rest.1, ap length (name_cons x xs passes)))
  | inr fails ↦ absurd (omega (arith, same, ap length (name_none x (xs ++ ys) fails)))
]

-- ---- a field line with more lines after it

trimmed_more : (a b : List ℕ) → begins_with_colon (without_leading_blanks a) ≡ true → without_leading_blanks (a ++ b) ≡ without_leading_blanks a ++ b
trimmed_more [] b e = absurd (true≢false (sym e))
trimmed_more (x ∷ a) b e = elim (cases_Bool (is_blank x)) [
  | inl blank ↦ let more = rw blank at e in rw blank (trimmed_more a b more)
  | inr other ↦ rw other refl
]

pub name_more : (a b : List ℕ) → begins_with_colon (after_name a) ≡ true → name_of (a ++ b) ≡ name_of a
name_more [] b e = absurd (true≢false (sym e))
name_more (x ∷ a) b e = elim (cases_Bool (is_name_octet x)) [
  | inl passes ↦ name_cons x (a ++ b) passes ∙ ap (λ l. x ∷ l) (name_more a b (ap begins_with_colon (sym (after_cons x a passes)) ∙ e)) ∙ sym (name_cons x a passes)
  | inr fails ↦ name_none x (a ++ b) fails ∙ sym (name_none x a fails)
]

after_name_more : (a b : List ℕ) → begins_with_colon (after_name a) ≡ true → after_name (a ++ b) ≡ after_name a ++ b
after_name_more [] b e = absurd (true≢false (sym e))
after_name_more (x ∷ a) b e = elim (cases_Bool (is_name_octet x)) [
  | inl passes ↦
      after_cons x (a ++ b) passes ∙ after_name_more a b (ap begins_with_colon (sym (after_cons x a passes)) ∙ e) ∙ ap (λ l. l ++ b) (sym (after_cons x a passes))
  | inr fails ↦
      after_none x (a ++ b) fails ∙ trimmed_more (x ∷ a) b (ap begins_with_colon (sym (after_none x a fails)) ∙ e) ∙ ap (λ l. l ++ b) (sym (after_none x a fails))
]

drop_colon : (t b : List ℕ) → begins_with_colon t ≡ true → drop 1 (t ++ b) ≡ drop 1 t ++ b
drop_colon [] b e = absurd (true≢false (sym e))
drop_colon (x ∷ t) b e = refl

pub colon_more : (a b : List ℕ) → begins_with_colon (after_name a) ≡ true → after_colon (a ++ b) ≡ after_colon a ++ b
colon_more a b e = ap (drop 1) (after_name_more a b e) ∙ drop_colon (after_name a) b e

-- the lines of a field, of which the first ends at this place, and the last at that
pub lines_are : (text : List ℕ) (start stop end : ℕ) → start ≤ stop → stop ≤ end → end ≤ length text → is_field_line (slice_range text start stop) ≡ true
    → let content = slice_range text start stop in
    (name_of (slice_range text start end) ≡ name_of content) × (after_colon (slice_range text start end) ≡ slice_range text (stop - length (after_colon content)) end)
lines_are text start stop end ordered more within is =
    let content = slice_range text start stop in
    let joined = slice_join text start stop end ordered more in
    let colon = (both_true (nat_lt 0 (length (name_of content))) (begins_with_colon (after_name content)) is).1 in
    let long = length-slice text start stop ordered (omega arith) in
    let from = stop - length (after_colon content) in
    let fits = after_colon_fits content in (
      ap name_of (sym joined) ∙ name_more content (slice_range text stop end) colon,
      ap after_colon (sym joined) ∙ colon_more content (slice_range text stop end) colon
          ∙ ap (λ x. x ++ slice_range text stop end) (sym (after_colon_slice text start stop ordered (omega arith)))
          ∙ slice_join text from stop end (omega arith) more,
    )
