-- Texts in pieces: all of them, and what no reader can do better.
use Rattle.std.proofs.Common.{◌≡◌, ◌≢◌, ℕ, ◌+◌, ◌*◌, ◌≤◌, ◌||◌, ◌&&◌, ◌==◌, true, false, List, [], ◌∷◌, ◌++◌, inl, inr, refl, sym, ◌∙◌, ap, arith, length, get_or}
use Rattle.std.specs.Char.{digit_value}
use Rattle.std.proofs.lemmas.Bool.{cases_Bool, true≢false}
use Rattle.std.proofs.lemmas.List.{append_assoc, append-nil, length-append}
use Rattle.octets.specs.Blank.{is_blank, without_leading_blanks}
use Rattle.octets.specs.Escapes.{is_hex}
use Rattle.quoted_printable.specs.QuotedPrintable.{decoding_of, joined}
use Rattle.quoted_printable.specs.Pieces.{HasFed, HaveFed, follows, is_held}
use Rattle.quoted_printable.specs.Private.{goes_on, has_digit, last_of}
use Rattle.quoted_printable.proofs.Heads.{blank_is, decoded-none, decoded-plain}
use Rattle.quoted_printable.proofs.Held.{IsGap, NotKept, escape_literal, escape_read, gap_digit, held_form, line_hard, line_soft, not_kept}
use Rattle.quoted_printable.proofs.Lengths.{no_longer}

-- ---- all pieces

pieces_then : (pieces : List (List ℕ)) (held left was now after : List ℕ) → HaveFed held pieces left was now
    → now ++ decoding_of (left ++ after) ≡ was ++ decoding_of (held ++ (joined pieces ++ after))
pieces_then [] held left was now after (same, e) = λ i. e i ++ decoding_of (same i ++ after)
pieces_then (piece ∷ pieces) held left was now after (held_next, next, fed, others) =
    pieces_then pieces held_next left next now after others
    ∙ ap (λ l. l ++ decoding_of (held_next ++ (joined pieces ++ after))) fed.appended
    ∙ append_assoc was fed.more (decoding_of (held_next ++ (joined pieces ++ after)))
    ∙ ap (λ l. was ++ l) (sym (fed.stands (joined pieces ++ after)))
    ∙ ap (λ l. was ++ decoding_of l) (append_assoc held piece (joined pieces ++ after) ∙ ap (λ l. held ++ l) (sym (append_assoc piece (joined pieces) after)))

pub pieces_law : (pieces : List (List ℕ)) (left was now : List ℕ) → HaveFed [] pieces left was now → now ++ decoding_of left ≡ was ++ decoding_of (joined pieces)
pieces_law pieces left was now fed =
    ap (λ l. now ++ decoding_of l) (sym (append-nil left))
    ∙ pieces_then pieces [] left was now [] fed
    ∙ ap (λ l. was ++ decoding_of l) (append-nil (joined pieces))

-- ---- as much as any

-- lists that go on in two ways
apart : (d more u v a b : List ℕ) (x y : ℕ) → x ≢ y → more ++ x ∷ a ≡ d ++ u → more ++ y ∷ b ≡ d ++ v → length d ≤ length more
apart [] more u v a b x y ne first second = omega arith
apart (z ∷ d) [] u v a b x y ne first second = absurd (ne (cc))
apart (z ∷ d) (m ∷ more) u v a b x y ne first second =
    let less = apart d more u v a b x y ne (cc) (cc) in omega (arith, less)

ended_there : (d more u : List ℕ) → more ++ [] ≡ d ++ u → length d ≤ length more
ended_there d more u e = let long = ap length e in omega (arith, long, length-append more [], length-append d u)

stands_alone : decoding_of (120 ∷ []) ≡ 120 ∷ []
stands_alone = decoded-plain 120 [] (record { no_equals = λ e. omega (arith, e); no_blank = refl }) ∙ ap (λ l. 120 ∷ l) decoded-none

-- nothing that is kept goes on with x
not_after : (last : ℕ) → follows last 120 ≡ false
not_after last = elim (last == 61) as (λ b. ((b && is_hex 120) || ((b || is_blank last) && (is_blank 120 || (120 == 13)))) ≡ false) [
  | true ↦ refl
  | false ↦ elim (is_blank last) as (λ b. (false || (b && false)) ≡ false) [ true ↦ refl | false ↦ refl ]
]

x_stops : (held : List ℕ) → goes_on held 120 ≡ false
x_stops [] = refl
x_stops (first ∷ rest) = not_after (last_of first rest)

-- what is kept stands as it is before x
kept_literal : (held : List ℕ) → is_held held ≡ true → decoding_of (held ++ 120 ∷ []) ≡ held ++ 120 ∷ []
unfolding NotKept
kept_literal held is = elim (cases_Bool (has_digit held)) [
  | inl digit ↦ escape_literal held 120 [] is digit refl ∙ ap (λ l. held ++ l) stands_alone
  | inr none ↦ not_kept held 120 [] is none (x_stops held) (λ e. omega (arith, e)) ∙ ap (λ l. held ++ l) stands_alone
]

-- LF after blanks: what is left doesn't begin with a blank
record Begun (text : List ℕ) : Type 0 where
  first : ℕ
  rest : List ℕ
  same : text ≡ first ∷ rest
  no_blank : is_blank first ≡ false

gap_begun : (gap : List ℕ) → IsGap gap → Begun (without_leading_blanks gap ++ 10 ∷ [])
gap_begun [] gap = record { first = 10; rest = []; same = refl; no_blank = refl }
gap_begun (x ∷ rest) (inl (blank, gap)) = rw blank (gap_begun rest gap)
gap_begun (x ∷ rest) (inr (cr, ended)) = rw cr (record { first = 13; rest = rest ++ 10 ∷ []; same = refl; no_blank = refl })

blank_left : (blank : ℕ) (gap : List ℕ) → is_blank blank ≡ true → without_leading_blanks (blank ∷ gap) ≡ without_leading_blanks gap
blank_left blank gap e = rw e refl

-- what a reader appends where other octets are kept
most : (text left d r more : List ℕ) → is_held left ≡ true → ((after : List ℕ) → decoding_of (text ++ after) ≡ more ++ decoding_of (left ++ after))
    → ((after : List ℕ) → decoding_of (text ++ after) ≡ d ++ decoding_of (r ++ after)) → length d ≤ length more
most text left d r more is ours others =
    let both : (after : List ℕ) → more ++ decoding_of (left ++ after) ≡ d ++ decoding_of (r ++ after) = λ after. sym (ours after) ∙ others after in
    elim (held_form left is) [
      | inl e ↦ ended_there d more (decoding_of (r ++ [])) (ap (λ l. more ++ l) (sym (ap (λ l. decoding_of (l ++ [])) e ∙ decoded-none)) ∙ both [])
      | inr (inl (digit, e, hex)) ↦
          let has : has_digit left ≡ true = ap has_digit e ∙ hex in
          let octet = escape_read left 48 [] is has refl ∙ ap (λ l. (16 * digit_value (get_or left 1 0) + 0) ∷ l) decoded-none in
          let literal = kept_literal left is ∙ ap (λ l. l ++ 120 ∷ []) e in
          apart d more (decoding_of (r ++ 48 ∷ [])) (decoding_of (r ++ 120 ∷ [])) [] (digit ∷ 120 ∷ []) (16 * digit_value (get_or left 1 0) + 0) 61
          (λ same. omega (arith, same))
          (ap (λ l. more ++ l) (sym octet) ∙ both (48 ∷ [])) (ap (λ l. more ++ l) (sym literal) ∙ both (120 ∷ []))
      | inr (inr (inl (gap, e, is_gap))) ↦
          let none : has_digit left ≡ false = ap has_digit e ∙ gap_digit 61 gap is_gap in
          let soft = line_soft left [] is none (let long = ap length e in omega (arith, long)) (ap (λ l. get_or l 0 0) e) ∙ decoded-none in
          ended_there d more (decoding_of (r ++ 10 ∷ [])) (ap (λ l. more ++ l) (sym soft) ∙ both (10 ∷ []))
      | inr (inr (inr (blank, gap, e, blank_is_blank, is_gap))) ↦
          let none : has_digit left ≡ false = ap has_digit e ∙ gap_digit blank gap is_gap in
          let feed : decoding_of (10 ∷ []) ≡ 10 ∷ [] = decoded-plain 10 [] (record { no_equals = λ e. omega (arith, e); no_blank = refl }) ∙ ap (λ l. 10 ∷ l) decoded-none in
          let begun = gap_begun gap is_gap in
          let hard = line_hard left [] is none (λ some first. (blank_is blank blank_is_blank).0 (sym (ap (λ l. get_or l 0 0) e) ∙ first))
          ∙ (λ i. without_leading_blanks (e i) ++ feed i)
          ∙ ap (λ l. l ++ 10 ∷ []) (blank_left blank gap blank_is_blank)
          ∙ begun.same in
          let literal = kept_literal left is ∙ ap (λ l. l ++ 120 ∷ []) e in
          apart d more (decoding_of (r ++ 10 ∷ [])) (decoding_of (r ++ 120 ∷ [])) begun.rest (gap ++ 120 ∷ []) begun.first blank
          (λ same. true≢false (sym blank_is_blank ∙ ap is_blank (sym same) ∙ begun.no_blank))
          (ap (λ l. more ++ l) (sym hard) ∙ both (10 ∷ [])) (ap (λ l. more ++ l) (sym literal) ∙ both (120 ∷ []))
    ]

least : (text left d r more : List ℕ) → is_held left ≡ true → ((after : List ℕ) → decoding_of (text ++ after) ≡ more ++ decoding_of (left ++ after))
    → ((after : List ℕ) → decoding_of (text ++ after) ≡ d ++ decoding_of (r ++ after)) → length d ≤ length more → length left ≤ length r
least text left d r more is ours others less =
    let same = ap length (ap (λ l. more ++ l) (sym (kept_literal left is)) ∙ sym (ours (120 ∷ [])) ∙ others (120 ∷ [])) in
    omega (
      arith,
      less,
      same,
      length-append more (left ++ 120 ∷ []),
      length-append left (120 ∷ []),
      length-append d (decoding_of (r ++ 120 ∷ [])),
      no_longer (r ++ 120 ∷ []),
      length-append r (120 ∷ []),
    )

pub best_law : (held piece left was now : List ℕ) → HasFed held piece left was now → (more others : List ℕ)
    → ((after : List ℕ) → decoding_of (held ++ piece ++ after) ≡ more ++ decoding_of (others ++ after)) → (length (was ++ more) ≤ length now) × (length left ≤ length others)
best_law held piece left was now fed more others law =
    let less = most (held ++ piece) left more others fed.more fed.kept fed.stands law in
    let long = ap length fed.appended in
    (omega (arith, less, long, length-append was more, length-append was fed.more), least (held ++ piece) left more others fed.more fed.kept fed.stands law less)
