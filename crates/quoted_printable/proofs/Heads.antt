-- What a text's first octets stand for, whatever follows them.
use Rattle.std.proofs.Common.{◌≡◌, ◌≢◌, ℕ, ◌-◌, ◌+◌, ◌*◌, ◌==◌, true, false, List, [], ◌∷◌, ◌++◌, suc, inl, inr, refl, sym, ◌∙◌, ap, arith, length, reverse}
use Rattle.std.specs.Char.{digit_value}
use Rattle.std.specs.List.{flat_map}
use Rattle.std.specs.Prelude.{if◌then◌else◌}
use Rattle.std.proofs.lemmas.Bool.{ne_eqb, eqb-true, cases_Bool, true≢false}
use Rattle.std.proofs.lemmas.List.{reverse-append}
use Rattle.octets.specs.Blank.{is_blank, without_leading_blanks, without_trailing_blanks}
use Rattle.text_lines.specs.Lines.{TextLine, lines_of, is_first_of_break, onto_content}
use Rattle.text_lines.proofs.FirstLine.{lines_feed, lines_other, no_break_of}
use Rattle.text_lines.proofs.Broken.{beginning, lines_crlf}
use Rattle.octets.specs.Escapes.{is_hex}
use Rattle.quoted_printable.specs.QuotedPrintable.{unescaped, ends_in_equals, without_last, decoded_line, decoding_of}
use Rattle.quoted_printable.proofs.Decoded.{unescaped-other}

-- ---- blanks at the end

lead_kept : (xs : List ℕ) (x : ℕ) → is_blank x ≡ false → without_leading_blanks (xs ++ x ∷ []) ≡ without_leading_blanks xs ++ x ∷ []
lead_kept [] x e = rw e refl
lead_kept (y ∷ xs) x e = elim (cases_Bool (is_blank y)) [
  | inl blank ↦ rw blank (lead_kept xs x e)
  | inr other ↦ rw other refl
]

lead_some : (xs : List ℕ) (x : ℕ) → without_leading_blanks xs ≢ [] → without_leading_blanks (xs ++ x ∷ []) ≡ without_leading_blanks xs ++ x ∷ []
lead_some [] x some = absurd (some refl)
lead_some (y ∷ xs) x some = elim (cases_Bool (is_blank y)) [
  | inl blank ↦ rw blank (lead_some xs x (λ none. some (rw blank none)))
  | inr other ↦ rw other refl
]

pub lead_none : (xs : List ℕ) (x : ℕ) → without_leading_blanks xs ≡ [] → is_blank x ≡ true → without_leading_blanks (xs ++ x ∷ []) ≡ []
lead_none [] x none e = rw e refl
lead_none (y ∷ xs) x none e = elim (cases_Bool (is_blank y)) [
  | inl blank ↦ rw blank (lead_none xs x (rw blank at none) e)
  | inr other ↦ absurd (let some = rw other at none in cc)
]

pub turned : (x : ℕ) (xs : List ℕ) → reverse (x ∷ xs) ≡ reverse xs ++ x ∷ []
turned x xs = reverse-append (x ∷ []) xs

pub trailing_kept : (x : ℕ) (xs : List ℕ) → is_blank x ≡ false → without_trailing_blanks (x ∷ xs) ≡ x ∷ without_trailing_blanks xs
trailing_kept x xs e =
    ap (λ l. reverse (without_leading_blanks l)) (turned x xs)
    ∙ ap reverse (lead_kept (reverse xs) x e)
    ∙ reverse-append (without_leading_blanks (reverse xs)) (x ∷ [])

not_none : (xs : List ℕ) → reverse xs ≢ [] → xs ≢ []
not_none [] some e = some refl
not_none (x ∷ xs) some e = cc

pub trailing_some : (x : ℕ) (xs : List ℕ) → without_trailing_blanks xs ≢ [] → without_trailing_blanks (x ∷ xs) ≡ x ∷ without_trailing_blanks xs
trailing_some x xs some =
    ap (λ l. reverse (without_leading_blanks l)) (turned x xs)
    ∙ ap reverse (lead_some (reverse xs) x (not_none (without_leading_blanks (reverse xs)) some))
    ∙ reverse-append (without_leading_blanks (reverse xs)) (x ∷ [])

-- ---- what is left of a line

-- a line without blanks at its end, decoded
abbrev pub ended : List ℕ → List ℕ → List ℕ
ended kept break = if ends_in_equals kept then unescaped (without_last kept) else unescaped kept ++ break

ends_more : (x : ℕ) (xs : List ℕ) → x ≢ 61 → ends_in_equals (x ∷ xs) ≡ ends_in_equals xs
ends_more x [] ne = ne_eqb x 61 ne
ends_more x (y ∷ xs) ne = refl

pub last_more : (x : ℕ) (xs : List ℕ) → ends_in_equals xs ≡ true → without_last (x ∷ xs) ≡ x ∷ without_last xs
last_more x [] e = absurd (true≢false (sym e))
last_more x (y ∷ xs) e = let n : suc (suc (length xs)) - 1 ≡ suc (suc (length xs) - 1) = omega arith in rw n refl

ended_other : (x : ℕ) (kept break : List ℕ) → x ≢ 61 → ended (x ∷ kept) break ≡ x ∷ ended kept break
ended_other x kept break ne = elim (cases_Bool (ends_in_equals kept)) [
  | inl soft ↦ rw (ends_more x kept ne, soft, last_more x kept soft) (unescaped-other x (without_last kept) ne)
  | inr hard ↦ rw (ends_more x kept ne, hard) (ap (λ l. l ++ break) (unescaped-other x kept ne))
]

-- ---- octets of which it doesn't matter what follows

-- neither `=` nor SP nor TAB
pub record IsPlain (octet : ℕ) : Type 0 where
  pub no_equals : octet ≢ 61
  pub no_blank : is_blank octet ≡ false

pub decoded-none : decoding_of [] ≡ []
unfolding decoding_of
decoded-none = refl

-- lines whose first one begins with an octet more
onto_plain : (x : ℕ) (lines : List TextLine) → IsPlain x → flat_map decoded_line (onto_content x lines) ≡ x ∷ flat_map decoded_line lines
onto_plain x [] plain =
    rw (trailing_kept x [] plain.no_blank) (ap (λ l. l ++ []) (ended_other x [] [] plain.no_equals))
onto_plain x (line ∷ lines) plain =
    rw (trailing_kept x line.content plain.no_blank)
    (ap (λ l. l ++ flat_map decoded_line lines) (ended_other x (without_trailing_blanks line.content) line.break plain.no_equals))

pub decoded-plain : (x : ℕ) (text : List ℕ) → IsPlain x → decoding_of (x ∷ text) ≡ x ∷ decoding_of text
unfolding decoding_of
decoded-plain x text plain = elim (beginning x text) [
  | inl lf ↦ rw (lines_feed x text lf, lf) refl
  | inr (inl b) ↦ rw (lines_crlf x text b, b.cr, b.lf) refl
  | inr (inr other) ↦ rw (lines_other x text other.other other.no_break) (onto_plain x (lines_of text) plain)
]

-- ---- SP and TAB before what isn't a line's end

-- the text's first line isn't blank
pub record IsFirm (text : List ℕ) : Type 0 where
  pub line : TextLine
  pub lines : List TextLine
  pub first : lines_of text ≡ line ∷ lines
  pub some : without_trailing_blanks line.content ≢ []

pub blank_is : (x : ℕ) → is_blank x ≡ true → (x ≢ 61) × (x ≢ 10) × (x ≢ 13)
blank_is x e = (λ is. true≢false (sym e ∙ rw is refl), λ is. true≢false (sym e ∙ rw is refl), λ is. true≢false (sym e ∙ rw is refl))

pub decoded-blank : (x : ℕ) (text : List ℕ) → is_blank x ≡ true → IsFirm text → decoding_of (x ∷ text) ≡ x ∷ decoding_of text
unfolding decoding_of
decoded-blank x text e firm =
    let other = blank_is x e in
    let line = firm.line in
    let lines : lines_of (x ∷ text) ≡ onto_content x (line ∷ firm.lines) =
    lines_other x text other.1 (no_break_of x text other.2) ∙ ap (onto_content x) firm.first in
    ap (flat_map decoded_line) lines
    ∙ (rw (trailing_some x line.content firm.some)
    (ap (λ l. l ++ flat_map decoded_line firm.lines) (ended_other x (without_trailing_blanks line.content) line.break other.0)))
    ∙ ap (λ l. x ∷ flat_map decoded_line l) (sym firm.first)

-- a text that begins with an octet of a line that isn't blank
pub firm_here : (x : ℕ) (text : List ℕ) → is_blank x ≡ false → x ≢ 10 → is_first_of_break x text ≡ false → IsFirm (x ∷ text)
firm_here x text e other no_break = firm_onto x text e (lines_of text) (lines_other x text other no_break) where
  firm_onto : (x : ℕ) (text : List ℕ) → is_blank x ≡ false → (lines : List TextLine) → lines_of (x ∷ text) ≡ onto_content x lines → IsFirm (x ∷ text)
  firm_onto x text e [] is = record { line = record { content = x ∷ []; break = [] }; lines = []; first = is; some = λ none. let kept = sym (trailing_kept x [] e) ∙ none in cc }
  firm_onto x text e (line ∷ lines) is = record { line = record { content = x ∷ line.content; break = line.break }; lines = lines; first = is; some = λ none. let kept = sym (trailing_kept x line.content e) ∙ none in cc }

pub firm_after : (x : ℕ) (text : List ℕ) → is_blank x ≡ true → IsFirm text → IsFirm (x ∷ text)
firm_after x text e firm =
    let other = blank_is x e in
    let line = firm.line in
    record {
      line = record { content = x ∷ line.content; break = line.break };
      lines = firm.lines;
      first = lines_other x text other.1 (no_break_of x text other.2) ∙ ap (onto_content x) firm.first;
      some = λ none. let kept = sym (trailing_some x line.content firm.some) ∙ none in cc;
    }

-- ---- escapes and soft breaks

-- what a hexadecimal digit is not
pub record IsDigit (octet : ℕ) : Type 0 where
  pub no_equals : octet ≢ 61
  pub no_blank : is_blank octet ≡ false
  pub no_feed : octet ≢ 10
  pub no_return : octet ≢ 13

pub hex_is : (x : ℕ) → is_hex x ≡ true → IsDigit x
hex_is x e = record {
  no_equals = λ is. true≢false (sym e ∙ rw is refl);
  no_blank = elim (cases_Bool (is_blank x)) [
    | inl blank ↦ absurd (blank_no_hex x blank e)
    | inr other ↦ other
  ];
  no_feed = λ is. true≢false (sym e ∙ rw is refl);
  no_return = λ is. true≢false (sym e ∙ rw is refl);
} where
  blank_no_hex : (x : ℕ) → is_blank x ≡ true → is_hex x ≡ true → ⊥
  blank_no_hex x b e = elim (cases_Bool (x == 32)) [
    | inl space ↦ let is = eqb-true x 32 space in true≢false (sym e ∙ rw is refl)
    | inr other ↦ elim (cases_Bool (x == 9)) [
      | inl tab ↦ let is = eqb-true x 9 tab in true≢false (sym e ∙ rw is refl)
      | inr neither ↦ true≢false (sym b ∙ rw (other, neither) refl)
    ]
  ]

ended_escape : (high low : ℕ) (kept break : List ℕ) → is_hex high ≡ true → is_hex low ≡ true
    → ended (61 ∷ high ∷ low ∷ kept) break ≡ (16 * digit_value high + digit_value low) ∷ ended kept break
ended_escape high low kept break h l =
    let digit = hex_is low l in
    elim (cases_Bool (ends_in_equals kept)) [
      | inl soft ↦
          let ends = ends_more low kept digit.no_equals ∙ soft in
          let last : without_last (61 ∷ high ∷ low ∷ kept) ≡ 61 ∷ high ∷ low ∷ without_last kept =
          last_more 61 (high ∷ low ∷ kept) ends ∙ ap (λ l. 61 ∷ l) (last_more high (low ∷ kept) ends ∙ ap (λ l. high ∷ l) (last_more low kept soft)) in
          rw (ends, last, soft, h, l) refl
      | inr hard ↦ let ends = ends_more low kept digit.no_equals ∙ hard in rw (ends, hard, h, l) refl
    ]

pub decoded-escape : (high low : ℕ) (text : List ℕ) → is_hex high ≡ true → is_hex low ≡ true
    → decoding_of (61 ∷ high ∷ low ∷ text) ≡ (16 * digit_value high + digit_value low) ∷ decoding_of text
unfolding decoding_of
decoded-escape high low text h l =
    let first = hex_is high h in
    let second = hex_is low l in
    let lines : lines_of (61 ∷ high ∷ low ∷ text) ≡ onto_content 61 (onto_content high (onto_content low (lines_of text))) =
    lines_other 61 (high ∷ low ∷ text) (λ e. omega (arith, e)) refl
    ∙ ap (onto_content 61) (lines_other high (low ∷ text) first.no_feed (no_break_of high (low ∷ text) first.no_return)
    ∙ ap (onto_content high) (lines_other low text second.no_feed (no_break_of low text second.no_return))) in
    ap (flat_map decoded_line) lines ∙ onto_escape high low (lines_of text) h l second.no_blank first.no_blank where
      onto_escape : (high low : ℕ) (lines : List TextLine) → is_hex high ≡ true → is_hex low ≡ true → is_blank low ≡ false → is_blank high ≡ false
          → flat_map decoded_line (onto_content 61 (onto_content high (onto_content low lines))) ≡ (16 * digit_value high + digit_value low) ∷ flat_map decoded_line lines
      onto_escape high low [] h l b a =
          let kept : without_trailing_blanks (61 ∷ high ∷ low ∷ []) ≡ 61 ∷ high ∷ low ∷ [] =
          trailing_kept 61 (high ∷ low ∷ []) refl ∙ ap (λ l. 61 ∷ l) (trailing_kept high (low ∷ []) a ∙ ap (λ l. high ∷ l) (trailing_kept low [] b)) in
          rw kept (ap (λ l. l ++ []) (ended_escape high low [] [] h l))
      onto_escape high low (line ∷ lines) h l b a =
          let kept : without_trailing_blanks (61 ∷ high ∷ low ∷ line.content) ≡ 61 ∷ high ∷ low ∷ without_trailing_blanks line.content =
          trailing_kept 61 (high ∷ low ∷ line.content) refl ∙ ap (λ l. 61 ∷ l) (trailing_kept high (low ∷ line.content) a ∙ ap (λ l. high ∷ l) (trailing_kept low line.content b)) in
          rw kept (ap (λ l. l ++ flat_map decoded_line lines) (ended_escape high low (without_trailing_blanks line.content) line.break h l))

pub decoded-soft : (text : List ℕ) → decoding_of (61 ∷ 13 ∷ 10 ∷ text) ≡ decoding_of text
unfolding decoding_of
decoded-soft text = refl
