-- What octets that are kept stand for once it is known what follows them.
use Rattle.std.proofs.Common.{◌≡◌, ◌≢◌, ◌⊎◌, ℕ, ◌-◌, ◌+◌, ◌*◌, ◌<◌, ◌==◌, ◌&&◌, ◌||◌, Bool, true, false, List, [], ◌∷◌, ◌++◌, suc, inl, inr, refl, sym, ◌∙◌, ap, arith, length, take, drop, get_or, reverse, subst}
use Rattle.std.specs.Char.{digit_value}
use Rattle.std.specs.List.{flat_map}
use Rattle.std.proofs.lemmas.Bool.{ne_eqb, eqb-true, eqb-false, cases_Bool, true≢false}
use Rattle.std.proofs.lemmas.List.{append_assoc, append-nil, length-reverse, nil_from_length, reverse-append, reverse-reverse, take-append-drop}
use Rattle.octets.specs.Blank.{is_blank, without_leading_blanks, without_trailing_blanks}
use Rattle.text_lines.specs.Lines.{lines_of, line_octets, octets_of, onto_content}
use Rattle.text_lines.proofs.FirstLine.{lines_other, no_break_of}
use Rattle.text_lines.proofs.Broken.{octets_of-lines_of}
use Rattle.octets.specs.Escapes.{is_hex}
use Rattle.quoted_printable.specs.QuotedPrintable.{unescaped, ends_in_equals, without_last, decoded_line, decoding_of}
use Rattle.quoted_printable.specs.Pieces.{all_follow, begins, follows, is_held}
use Rattle.quoted_printable.specs.Private.{Reads, Stops, goes_on, has_digit, last_of}
use Rattle.quoted_printable.proofs.Heads.{IsFirm, blank_is, decoded-blank, decoded-escape, decoded-plain, ended, firm_after, firm_here, hex_is, last_more, lead_none, trailing_kept, turned}

-- ---- a literal `=`

-- whether a text begins with two hexadecimal digits
abbrev pub opens : List ℕ → Bool
opens [] = false
opens (a ∷ []) = false
opens (a ∷ b ∷ rest) = is_hex a && is_hex b

pub opens_front : (front rest : List ℕ) → opens (front ++ rest) ≡ false → opens front ≡ false
opens_front [] rest e = refl
opens_front (x ∷ []) rest e = refl
opens_front (x ∷ y ∷ front) rest e = e

pub unescaped-literal : (text : List ℕ) → opens text ≡ false → unescaped (61 ∷ text) ≡ 61 ∷ unescaped text
unescaped-literal [] e = refl
unescaped-literal (a ∷ []) e = refl
unescaped-literal (a ∷ b ∷ rest) e = rw e refl

-- the blanks at a text's beginning
lead_of : (text : List ℕ) → (blanks : List ℕ) × (text ≡ blanks ++ without_leading_blanks text)
lead_of [] = ([], refl)
lead_of (x ∷ text) = elim (cases_Bool (is_blank x)) [
  | inl blank ↦ let (blanks, e) = lead_of text in (x ∷ blanks, rw blank (ap (λ l. x ∷ l) e))
  | inr other ↦ ([], rw other refl)
]

trail_of : (text : List ℕ) → (blanks : List ℕ) × (text ≡ without_trailing_blanks text ++ blanks)
trail_of text =
    let (blanks, e) = lead_of (reverse text) in
    (reverse blanks, sym (reverse-reverse text) ∙ ap reverse e ∙ reverse-append blanks (without_leading_blanks (reverse text)))

opens_trimmed : (text : List ℕ) → opens text ≡ false → opens (without_trailing_blanks text) ≡ false
opens_trimmed text e = let (blanks, is) = trail_of text in opens_front (without_trailing_blanks text) blanks (ap opens (sym is) ∙ e)

ended_literal : (kept break : List ℕ) → kept ≢ [] → opens kept ≡ false → ended (61 ∷ kept) break ≡ 61 ∷ ended kept break
ended_literal [] break some e = absurd (some refl)
ended_literal (y ∷ ys) break some e = elim (cases_Bool (ends_in_equals (y ∷ ys))) [
  | inl soft ↦
      let n = length (y ∷ ys) - 1 in
      let front = opens_front (take n (y ∷ ys)) (drop n (y ∷ ys)) (ap opens (take-append-drop n (y ∷ ys)) ∙ e) in
      rw (soft, last_more 61 (y ∷ ys) soft) (unescaped-literal (without_last (y ∷ ys)) front)
  | inr hard ↦ rw hard (ap (λ l. l ++ break) (unescaped-literal (y ∷ ys) e))
]

pub decoded-literal : (text : List ℕ) → IsFirm text → opens text ≡ false → decoding_of (61 ∷ text) ≡ 61 ∷ decoding_of text
unfolding decoding_of
decoded-literal text firm e =
    let line = firm.line in
    let whole : line_octets line ++ octets_of firm.lines ≡ text = ap octets_of (sym firm.first) ∙ octets_of-lines_of text in
    let content : opens line.content ≡ false =
    opens_front line.content line.break (opens_front (line_octets line) (octets_of firm.lines) (ap opens whole ∙ e)) in
    let lines : lines_of (61 ∷ text) ≡ onto_content 61 (line ∷ firm.lines) =
    lines_other 61 text (λ e. omega (arith, e)) (no_break_of 61 text (λ e. omega (arith, e))) ∙ ap (onto_content 61) firm.first in
    ap (flat_map decoded_line) lines
    ∙ (rw (trailing_kept 61 line.content refl)
    (ap (λ l. l ++ flat_map decoded_line firm.lines) (ended_literal (without_trailing_blanks line.content) line.break firm.some (opens_trimmed line.content content))))
    ∙ ap (λ l. 61 ∷ flat_map decoded_line l) (sym firm.first)

-- ---- a line that ends after blanks

-- the first line is blank, and it has this break
record EndsLine (text break rest : List ℕ) : Type 0 where
  content : List ℕ
  first : lines_of text ≡ record { content = content; break = break } ∷ lines_of rest
  blank : without_trailing_blanks content ≡ []

reverse_none : (l : List ℕ) → reverse l ≡ [] → l ≡ []
reverse_none l e = nil_from_length l (sym (length-reverse l) ∙ ap length e)

trailing_none : (x : ℕ) (xs : List ℕ) → without_trailing_blanks xs ≡ [] → is_blank x ≡ true → without_trailing_blanks (x ∷ xs) ≡ []
trailing_none x xs none e =
    ap (λ l. reverse (without_leading_blanks l)) (turned x xs)
    ∙ ap reverse (lead_none (reverse xs) x (reverse_none (without_leading_blanks (reverse xs)) none) e)

ends_after : (x : ℕ) (text break rest : List ℕ) → is_blank x ≡ true → EndsLine text break rest → EndsLine (x ∷ text) break rest
ends_after x text break rest e ends =
    let other = blank_is x e in
    record {
      content = x ∷ ends.content;
      first = lines_other x text other.1 (no_break_of x text other.2) ∙ ap (onto_content x) ends.first;
      blank = trailing_none x ends.content ends.blank e;
    }

decoded-ends : (text break rest : List ℕ) → EndsLine text break rest → decoding_of text ≡ break ++ decoding_of rest
unfolding decoding_of
decoded-ends text break rest ends = ap (flat_map decoded_line) ends.first ∙ (rw ends.blank refl)

decoded-soft_ends : (text break rest : List ℕ) → EndsLine text break rest → decoding_of (61 ∷ text) ≡ decoding_of rest
unfolding decoding_of
decoded-soft_ends text break rest ends =
    let lines : lines_of (61 ∷ text) ≡ onto_content 61 (record { content = ends.content; break = break } ∷ lines_of rest) =
    lines_other 61 text (λ e. omega (arith, e)) (no_break_of 61 text (λ e. omega (arith, e))) ∙ ap (onto_content 61) ends.first in
    ap (flat_map decoded_line) lines ∙ (rw (trailing_kept 61 ends.content refl, ends.blank) refl)

-- ---- the forms of what is kept

pub or_none : (a b : Bool) → (a || b) ≡ false → (a ≡ false) × (b ≡ false)
or_none false false e = (refl, refl)
or_none false true e = absurd (true≢false e)
or_none true b e = absurd (true≢false e)

pub and_both : (a b : Bool) → (a && b) ≡ true → (a ≡ true) × (b ≡ true)
and_both true true e = (refl, refl)
and_both true false e = absurd (true≢false (sym e))
and_both false b e = absurd (true≢false (sym e))

-- blanks, and perhaps a CR after them
abbrev pub IsGap : List ℕ → Type 0
IsGap [] = Unit {0}
IsGap (x ∷ rest) = ((is_blank x ≡ true) × IsGap rest) ⊎ ((x ≡ 13) × (rest ≡ []))

-- what may follow a blank
follows-blank : (last x : ℕ) → is_blank last ≡ true → follows last x ≡ (is_blank x || (x == 13))
follows-blank last x e = let other = blank_is last e in rw (ne_eqb last 61 other.0, e) refl

or_some : (a b : Bool) → (a || b) ≡ true → (a ≡ true) ⊎ (b ≡ true)
or_some true b e = inl refl
or_some false b e = inr e

gap_of : (last : ℕ) (w : List ℕ) → is_blank last ≡ true → all_follow last w ≡ true → IsGap w
gap_of last [] e all = tt
gap_of last (x ∷ w) e all =
    let (first, more) = and_both (follows last x) (all_follow x w) all in
    elim (or_some (is_blank x) (x == 13) (sym (follows-blank last x e) ∙ first)) [
      | inl blank ↦ inl (blank, gap_of x w blank more)
      | inr cr ↦ let is = eqb-true x 13 cr in inr (is, none_after w (ap (λ n. all_follow n w) (sym is) ∙ more))
    ] where
      none_after : (w : List ℕ) → all_follow 13 w ≡ true → w ≡ []
      none_after [] all = refl
      none_after (x ∷ w) all = absurd (true≢false (sym all))

-- the forms of what is kept
abbrev pub HeldForm : List ℕ → Type 0
HeldForm held =
    (held ≡ [])
    ⊎ (((digit : ℕ) × (held ≡ 61 ∷ digit ∷ []) × (is_hex digit ≡ true))
    ⊎ (((gap : List ℕ) × (held ≡ 61 ∷ gap) × IsGap gap)
    ⊎ ((blank : ℕ) × (gap : List ℕ) × (held ≡ blank ∷ gap) × (is_blank blank ≡ true) × IsGap gap)))

after_digit : (digit : ℕ) (rest : List ℕ) → is_hex digit ≡ true → all_follow digit rest ≡ true → rest ≡ []
after_digit digit [] hex all = refl
after_digit digit (x ∷ rest) hex all =
    let is = hex_is digit hex in
    let none : follows digit x ≡ false = rw (ne_eqb digit 61 is.no_equals, is.no_blank) refl in
    absurd (true≢false (sym (and_both (follows digit x) (all_follow x rest) all).0 ∙ none))

after_return : (rest : List ℕ) → all_follow 13 rest ≡ true → rest ≡ []
after_return [] all = refl
after_return (x ∷ rest) all = absurd (true≢false (sym all))

after_first : (x : ℕ) (rest : List ℕ) → follows 61 x ≡ true → all_follow x rest ≡ true → ((is_hex x ≡ true) × (rest ≡ [])) ⊎ IsGap (x ∷ rest)
after_first x rest first all = elim (cases_Bool (is_hex x)) [
  | inl hex ↦ inl (hex, after_digit x rest hex all)
  | inr other ↦ elim (cases_Bool (is_blank x)) [
    | inl blank ↦ inr (inl (blank, gap_of x rest blank all))
    | inr no_blank ↦ elim (cases_Bool (x == 13)) [
      | inl cr ↦ let is = eqb-true x 13 cr in inr (inr (is, after_return rest (ap (λ n. all_follow n rest) (sym is) ∙ all)))
      | inr neither ↦ absurd (true≢false (sym first ∙ rw (other, no_blank, neither) refl))
    ]
  ]
]

after_equals : (first : ℕ) (rest : List ℕ) → first ≡ 61 → all_follow 61 rest ≡ true
    → ((digit : ℕ) × (first ∷ rest ≡ 61 ∷ digit ∷ []) × (is_hex digit ≡ true))
    ⊎ (((gap : List ℕ) × (first ∷ rest ≡ 61 ∷ gap) × IsGap gap)
    ⊎ ((blank : ℕ) × (gap : List ℕ) × (first ∷ rest ≡ blank ∷ gap) × (is_blank blank ≡ true) × IsGap gap))
after_equals first [] same all = inr (inl ([], ap (λ n. n ∷ []) same, tt))
after_equals first (x ∷ rest) same all =
    let (follow, more) = and_both (follows 61 x) (all_follow x rest) all in
    elim (after_first x rest follow more) [
      | inl (hex, none) ↦ inl (x, (λ i. same i ∷ x ∷ none i), hex)
      | inr gap ↦ inr (inl (x ∷ rest, ap (λ n. n ∷ x ∷ rest) same, gap))
    ]

pub held_form : (held : List ℕ) → is_held held ≡ true → HeldForm held
held_form [] e = inl refl
held_form (first ∷ rest) e =
    let (begin, all) = and_both (begins first) (all_follow first rest) e in
    elim (or_some (first == 61) (is_blank first) begin) [
      | inl is ↦ let same = eqb-true first 61 is in inr (after_equals first rest same (ap (λ n. all_follow n rest) (sym same) ∙ all))
      | inr blank ↦ inr (inr (inr (first, rest, refl, blank, gap_of first rest blank all)))
    ]

-- ---- blanks and a CR, then an octet that ends no line

-- what doesn't follow an octet is no blank and no CR
Waits : ℕ → Type 0
Waits last = (x : ℕ) → follows last x ≡ false → (is_blank x ≡ false) × (x ≢ 13)

waits_blank : (last : ℕ) → is_blank last ≡ true → Waits last
unfolding Waits
waits_blank last e x none =
    let (no_blank, no_return) = or_none (is_blank x) (x == 13) (sym (follows-blank last x e) ∙ none) in
    (no_blank, eqb-false x 13 no_return)

equals_none : (x : ℕ) → follows 61 x ≡ false → (is_hex x ≡ false) × (is_blank x ≡ false) × (x ≢ 13)
equals_none x none =
    let (no_hex, others) = or_none (is_hex x) (is_blank x || (x == 13)) none in
    let (no_blank, no_return) = or_none (is_blank x) (x == 13) others in
    (no_hex, no_blank, eqb-false x 13 no_return)

waits_equals : Waits 61
unfolding Waits
waits_equals x none = let (_, no_blank, no_return) = equals_none x none in (no_blank, no_return)

-- the text's first line isn't blank, and the octets before it stand as they are
record Stands (gap text : List ℕ) : Type 0 where
  firm : IsFirm (gap ++ text)
  same : decoding_of (gap ++ text) ≡ gap ++ decoding_of text

gap_stands : (last : ℕ) (gap : List ℕ) (x : ℕ) (text : List ℕ) → Waits last → IsGap gap → follows (last_of last gap) x ≡ false → x ≢ 10 → Stands gap (x ∷ text)
unfolding Waits
gap_stands last [] x text waits gap none other =
    let (no_blank, no_return) = waits x none in
    record { firm = firm_here x text no_blank other (no_break_of x text no_return); same = refl }
gap_stands last (y ∷ rest) x text waits (inl (blank, gap)) none other =
    let more = gap_stands y rest x text (waits_blank y blank) gap none other in
    record {
      firm = firm_after y (rest ++ x ∷ text) blank more.firm;
      same = decoded-blank y (rest ++ x ∷ text) blank more.firm ∙ ap (λ l. y ∷ l) more.same;
    }
gap_stands last (y ∷ rest) x text waits (inr (cr, ended)) none other =
    subst (λ n. Stands (n ∷ rest) (x ∷ text)) (sym cr) (subst (λ l. Stands (13 ∷ l) (x ∷ text)) (sym ended) (record {
      firm = firm_here 13 (x ∷ text) refl (λ e. omega (arith, e)) (ne_eqb x 10 other);
      same = decoded-plain 13 (x ∷ text) (record { no_equals = λ e. omega (arith, e); no_blank = refl });
    }))

-- ---- blanks and a CR, then LF

gap_ends : (gap text : List ℕ) → IsGap gap → EndsLine (gap ++ 10 ∷ text) (without_leading_blanks gap ++ 10 ∷ []) text
gap_ends [] text gap = record { content = []; first = refl; blank = refl }
gap_ends (y ∷ rest) text (inl (blank, gap)) = rw blank (ends_after y (rest ++ 10 ∷ text) (without_leading_blanks rest ++ 10 ∷ []) text blank (gap_ends rest text gap))
gap_ends (y ∷ rest) text (inr (cr, ended)) = rw (cr, ended) (record { content = []; first = refl; blank = refl })

-- ---- what is kept, and an octet that doesn't go on

unfoldable pub NotKept : List ℕ → ℕ → List ℕ → Type 0
NotKept held x text = decoding_of (held ++ x ∷ text) ≡ held ++ decoding_of (x ∷ text)

pub opens_other : (x : ℕ) (text : List ℕ) → is_hex x ≡ false → opens (x ∷ text) ≡ false
opens_other x [] e = refl
opens_other x (y ∷ text) e = rw e refl

blank_no_hex : (x : ℕ) → is_blank x ≡ true → is_hex x ≡ false
blank_no_hex x e = elim (cases_Bool (is_hex x)) [
  | inl hex ↦ absurd (true≢false (sym e ∙ (hex_is x hex).no_blank))
  | inr other ↦ other
]

gap_opens : (gap : List ℕ) (x : ℕ) (text : List ℕ) → IsGap gap → follows (last_of 61 gap) x ≡ false → opens (gap ++ x ∷ text) ≡ false
gap_opens [] x text gap none = opens_other x text (equals_none x none).0
gap_opens (y ∷ rest) x text (inl (blank, gap)) none = opens_other y (rest ++ x ∷ text) (blank_no_hex y blank)
gap_opens (y ∷ rest) x text (inr (cr, ended)) none = opens_other y (rest ++ x ∷ text) (ap is_hex cr)

pub gap_digit : (first : ℕ) (gap : List ℕ) → IsGap gap → has_digit (first ∷ gap) ≡ false
gap_digit first [] gap = refl
gap_digit first (y ∷ rest) (inl (blank, gap)) = blank_no_hex y blank
gap_digit first (y ∷ rest) (inr (cr, ended)) = ap is_hex cr

pub not_kept : (held : List ℕ) (x : ℕ) (text : List ℕ) → is_held held ≡ true → has_digit held ≡ false → goes_on held x ≡ false → x ≢ 10 → NotKept held x text
unfolding NotKept
not_kept held x text is digit none other = elim (held_form held is) [
  | inl e ↦ subst (λ l. NotKept l x text) (sym e) refl
  | inr (inl (d, e, hex)) ↦ absurd (true≢false (sym hex ∙ sym (ap has_digit e) ∙ digit))
  | inr (inr (inl (gap, e, is_gap))) ↦
      let stops : follows (last_of 61 gap) x ≡ false = sym (ap (λ l. goes_on l x) e) ∙ none in
      let stands = gap_stands 61 gap x text waits_equals is_gap stops other in
      subst (λ l. NotKept l x text) (sym e) (decoded-literal (gap ++ x ∷ text) stands.firm (gap_opens gap x text is_gap stops) ∙ ap (λ l. 61 ∷ l) stands.same)
  | inr (inr (inr (blank, gap, e, is_blank, is_gap))) ↦
      let stops : follows (last_of blank gap) x ≡ false = sym (ap (λ l. goes_on l x) e) ∙ none in
      let stands = gap_stands blank gap x text (waits_blank blank is_blank) is_gap stops other in
      subst (λ l. NotKept l x text) (sym e) (decoded-blank blank (gap ++ x ∷ text) is_blank stands.firm ∙ ap (λ l. blank ∷ l) stands.same)
]

-- ---- `=` and a digit

digit_form : (held : List ℕ) → is_held held ≡ true → has_digit held ≡ true → (digit : ℕ) × (held ≡ 61 ∷ digit ∷ []) × (is_hex digit ≡ true)
digit_form held is digit = elim (held_form held is) [
  | inl e ↦ absurd (true≢false (sym digit ∙ ap has_digit e))
  | inr (inl form) ↦ form
  | inr (inr (inl (gap, e, is_gap))) ↦ absurd (true≢false (sym digit ∙ ap has_digit e ∙ gap_digit 61 gap is_gap))
  | inr (inr (inr (blank, gap, e, is_blank, is_gap))) ↦ absurd (true≢false (sym digit ∙ ap has_digit e ∙ gap_digit blank gap is_gap))
]

pub escape_literal : (held : List ℕ) (x : ℕ) (text : List ℕ) → is_held held ≡ true → has_digit held ≡ true → is_hex x ≡ false → NotKept held x text
unfolding NotKept
escape_literal held x text is has other =
    let (digit, e, hex) = digit_form held is has in
    let d = hex_is digit hex in
    subst (λ l. NotKept l x text) (sym e)
    (decoded-literal (digit ∷ x ∷ text) (firm_here digit (x ∷ text) d.no_blank d.no_feed (no_break_of digit (x ∷ text) d.no_return)) (rw (hex, other) refl)
    ∙ ap (λ l. 61 ∷ l) (decoded-plain digit (x ∷ text) (record { no_equals = d.no_equals; no_blank = d.no_blank })))

pub escape_read : (held : List ℕ) (x : ℕ) (text : List ℕ) → is_held held ≡ true → has_digit held ≡ true → is_hex x ≡ true
    → decoding_of (held ++ x ∷ text) ≡ (16 * digit_value (get_or held 1 0) + digit_value x) ∷ decoding_of text
escape_read held x text is has low =
    let (digit, e, hex) = digit_form held is has in
    subst (λ l. decoding_of (l ++ x ∷ text) ≡ (16 * digit_value (get_or l 1 0) + digit_value x) ∷ decoding_of text) (sym e) (decoded-escape digit x text hex low)

-- ---- what is kept, and LF

pub line_soft : (held text : List ℕ) → is_held held ≡ true → has_digit held ≡ false → 0 < length held → get_or held 0 0 ≡ 61 → decoding_of (held ++ 10 ∷ text) ≡ decoding_of text
line_soft held text is digit some first = elim (held_form held is) [
  | inl e ↦ absurd (let none = ap length e in omega arith)
  | inr (inl (d, e, hex)) ↦ absurd (true≢false (sym hex ∙ sym (ap has_digit e) ∙ digit))
  | inr (inr (inl (gap, e, is_gap))) ↦
      subst (λ l. decoding_of (l ++ 10 ∷ text) ≡ decoding_of text) (sym e) (decoded-soft_ends (gap ++ 10 ∷ text) (without_leading_blanks gap ++ 10 ∷ []) text (gap_ends gap text is_gap))
  | inr (inr (inr (blank, gap, e, is_blank, is_gap))) ↦ absurd ((blank_is blank is_blank).0 (sym (ap (λ l. get_or l 0 0) e) ∙ first))
]

pub line_hard : (held text : List ℕ) → is_held held ≡ true → has_digit held ≡ false → (0 < length held → get_or held 0 0 ≢ 61)
    → decoding_of (held ++ 10 ∷ text) ≡ without_leading_blanks held ++ decoding_of (10 ∷ text)
line_hard held text is digit first = elim (held_form held is) [
  | inl e ↦ subst (λ l. decoding_of (l ++ 10 ∷ text) ≡ without_leading_blanks l ++ decoding_of (10 ∷ text)) (sym e) refl
  | inr (inl (d, e, hex)) ↦ absurd (true≢false (sym hex ∙ sym (ap has_digit e) ∙ digit))
  | inr (inr (inl (gap, e, is_gap))) ↦ absurd (first (let some = ap length e in omega arith) (ap (λ l. get_or l 0 0) e))
  | inr (inr (inr (blank, gap, e, is_blank, is_gap))) ↦
      let same : without_leading_blanks (blank ∷ gap) ≡ without_leading_blanks gap = rw is_blank refl in
      let ends = ends_after blank (gap ++ 10 ∷ text) (without_leading_blanks gap ++ 10 ∷ []) text is_blank (gap_ends gap text is_gap) in
      let feed : decoding_of (10 ∷ text) ≡ 10 ∷ decoding_of text = decoded-plain 10 text (record { no_equals = λ e. omega (arith, e); no_blank = refl }) in
      subst (λ l. decoding_of (l ++ 10 ∷ text) ≡ without_leading_blanks l ++ decoding_of (10 ∷ text)) (sym e)
      (decoded-ends (blank ∷ (gap ++ 10 ∷ text)) (without_leading_blanks gap ++ 10 ∷ []) text ends
      ∙ append_assoc (without_leading_blanks gap) (10 ∷ []) (decoding_of text)
      ∙ (λ i. sym same i ++ sym feed i))
]

-- ---- the same, as what the code answers

reads_after : (was added now held rest left : List ℕ) → now ≡ was ++ added → ((after : List ℕ) → decoding_of (held ++ (rest ++ after)) ≡ added ++ decoding_of (left ++ after))
    → Reads was (held ++ rest) now left
reads_after was added now held rest left e same = λ after.
    ap (λ l. l ++ decoding_of (left ++ after)) e
    ∙ append_assoc was added (decoding_of (left ++ after))
    ∙ ap (λ l. was ++ l) (sym (same after))
    ∙ ap (λ l. was ++ decoding_of l) (sym (append_assoc held rest after))

pub release_other : (was now held rest : List ℕ) → is_held held ≡ true → has_digit held ≡ false → Stops held rest → 0 < length rest → get_or rest 0 0 ≢ 10
    → now ≡ was ++ held → Reads was (held ++ rest) now rest
unfolding NotKept
release_other was now held [] is digit stops some other e = absurd (omega arith)
release_other was now held (x ∷ rest) is digit stops some other e =
    reads_after was held now held (x ∷ rest) (x ∷ rest) e (λ after. not_kept held x (rest ++ after) is digit stops other)

pub release_literal : (was now held rest : List ℕ) → is_held held ≡ true → has_digit held ≡ true → 0 < length rest → ((is_hex (get_or held 1 0) && is_hex (get_or rest 0 0)) ≢ true)
    → now ≡ was ++ held → Reads was (held ++ rest) now rest
unfolding NotKept
release_literal was now held [] is digit some other e = absurd (omega arith)
release_literal was now held (x ∷ rest) is digit some other e =
    let (d, form, hex) = digit_form held is digit in
    let no_hex : is_hex x ≡ false = elim (cases_Bool (is_hex x)) [
      | inl low ↦ absurd (other (subst (λ l. (is_hex (get_or l 1 0) && is_hex x) ≡ true) (sym form) (rw (hex, low) refl)))
      | inr none ↦ none
    ] in
    reads_after was held now held (x ∷ rest) (x ∷ rest) e (λ after. escape_literal held x (rest ++ after) is digit no_hex)

pub release_octet : (was now held rest : List ℕ) → is_held held ≡ true → has_digit held ≡ true → 0 < length rest → (is_hex (get_or held 1 0) && is_hex (get_or rest 0 0)) ≡ true
    → now ≡ was ++ (16 * digit_value (get_or held 1 0) + digit_value (get_or rest 0 0)) ∷ [] → Reads was (held ++ rest) now (drop 1 rest)
release_octet was now held [] is digit some both e = absurd (omega arith)
release_octet was now held (x ∷ rest) is digit some both e =
    reads_after was ((16 * digit_value (get_or held 1 0) + digit_value x) ∷ []) now held (x ∷ rest) rest e
    (λ after. escape_read held x (rest ++ after) is digit (and_both (is_hex (get_or held 1 0)) (is_hex x) both).1)

pub release_soft : (was held rest : List ℕ) → is_held held ≡ true → has_digit held ≡ false → 0 < length rest → get_or rest 0 0 ≡ 10 → 0 < length held → get_or held 0 0 ≡ 61
    → Reads was (held ++ rest) was (drop 1 rest)
release_soft was held [] is digit some feed any first = absurd (omega arith)
release_soft was held (x ∷ rest) is digit some feed any first =
    reads_after was [] was held (x ∷ rest) rest (sym (append-nil was))
    (λ after. ap (λ n. decoding_of (held ++ n ∷ (rest ++ after))) feed ∙ line_soft held (rest ++ after) is digit any first)

pub release_hard : (was now held rest : List ℕ) → is_held held ≡ true → has_digit held ≡ false → 0 < length rest → get_or rest 0 0 ≡ 10 → (0 < length held → get_or held 0 0 ≢ 61)
    → now ≡ was ++ without_leading_blanks held → Reads was (held ++ rest) now rest
release_hard was now held [] is digit some feed first e = absurd (omega arith)
release_hard was now held (x ∷ rest) is digit some feed first e =
    reads_after was (without_leading_blanks held) now held (x ∷ rest) (x ∷ rest) e
    (λ after. ap (λ n. decoding_of (held ++ n ∷ (rest ++ after))) feed ∙ line_hard held (rest ++ after) is digit first
    ∙ ap (λ n. without_leading_blanks held ++ decoding_of (n ∷ (rest ++ after))) (sym feed))

-- ---- octets that go on

pub goes_on_last : (held : List ℕ) (octet : ℕ) → 0 < length held → goes_on held octet ≡ follows (get_or held (length held - 1) 0) octet
goes_on_last [] octet some = absurd (omega arith)
goes_on_last (first ∷ rest) octet some = ap (λ n. follows n octet) (last_at first rest) where
  last_at : (first : ℕ) (rest : List ℕ) → last_of first rest ≡ get_or (first ∷ rest) (length (first ∷ rest) - 1) 0
  last_at first [] = refl
  last_at first (following ∷ rest) =
      let at : suc (suc (length rest)) - 1 ≡ suc (length (following ∷ rest) - 1) = omega arith in
      last_at following rest ∙ ap (λ n. get_or (first ∷ following ∷ rest) n 0) (sym at)

all_follow_more : (last : ℕ) (w : List ℕ) (x : ℕ) → all_follow last w ≡ true → follows (last_of last w) x ≡ true → all_follow last (w ++ x ∷ []) ≡ true
all_follow_more last [] x all e = rw e refl
all_follow_more last (y ∷ w) x all e =
    let (first, more) = and_both (follows last y) (all_follow y w) all in
    rw first (all_follow_more y w x more e)

pub held_more : (held : List ℕ) (x : ℕ) → is_held held ≡ true → goes_on held x ≡ true → is_held (held ++ x ∷ []) ≡ true
held_more [] x is e = rw e refl
held_more (first ∷ rest) x is e =
    let (begin, all) = and_both (begins first) (all_follow first rest) is in
    rw begin (all_follow_more first rest x all e)
