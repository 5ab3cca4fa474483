-- What was written is read back.
use Rattle.std.proofs.Common.{◌≡◌, ◌≢◌, ℕ, ◌-◌, ◌+◌, ◌*◌, ◌/◌, ◌%◌, ◌<◌, ◌≤◌, ◌==◌, ◌&&◌, Bool, true, false, List, [], ◌∷◌, ◌++◌, zero, suc, ◌⊎◌, inl, inr, refl, sym, ◌∙◌, ap, arith, length, take, drop}
use Rattle.std.specs.Char.{digit_value}
use Rattle.std.specs.Prelude.{nat_le}
use Rattle.std.proofs.lemmas.Bool.{cases_Bool, true≢false, eqb-true, eqb-false}
use Rattle.std.proofs.lemmas.List.{append_assoc, append-nil, take-append-drop, drop_all, length-drop}
use Rattle.std.proofs.lemmas.List.Elements.{All-head, All-tail}
use Rattle.text_lines.proofs.FirstLine.{no_break_of}
use Rattle.octets.specs.Blank.{is_blank}
use Rattle.octets.specs.Escapes.{is_hex}
use Rattle.octet_lanes.specs.Encoding.{IsOctets}
use Rattle.quoted_printable.specs.QuotedPrintable.{decoding_of, encoding_of, first_line, hex_of, in_lines, is_last_line, is_literal, is_none, joined, run_of, soft_break, stands, token_of, tokens_of, tokens_of_line}
use Rattle.quoted_printable.proofs.Encoded.{in_lines_none, length-tokens_of, run_some, tokens_drop}
use Rattle.quoted_printable.proofs.Heads.{IsFirm, IsPlain, decoded-blank, decoded-escape, decoded-none, decoded-plain, decoded-soft, firm_after, firm_here}

-- ---- octets by their kind

-- an octet that may stand anywhere
pub record IsLiteral (octet : ℕ) : Type 0 where
  pub plain : IsPlain octet
  pub no_feed : octet ≢ 10
  pub no_return : octet ≢ 13

blank_cases : (x : ℕ) → is_blank x ≡ true → (x ≡ 32) ⊎ (x ≡ 9)
blank_cases x e = elim (cases_Bool (x == 32)) [
  | inl space ↦ inl (eqb-true x 32 space)
  | inr other ↦ elim (cases_Bool (x == 9)) [
    | inl tab ↦ inr (eqb-true x 9 tab)
    | inr neither ↦ absurd (true≢false (sym e ∙ rw (other, neither) refl))
  ]
]

literal_is : (octet : ℕ) → is_literal octet ≡ true → IsLiteral octet
literal_is octet e = record {
  plain = record {
    no_equals = λ is. true≢false (sym e ∙ rw is refl);
    no_blank = elim (cases_Bool (is_blank octet)) [
      | inl blank ↦ absurd (elim (blank_cases octet blank) [ inl is ↦ true≢false (sym e ∙ rw is refl) | inr is ↦ true≢false (sym e ∙ rw is refl) ])
      | inr other ↦ other
    ];
  };
  no_feed = λ is. true≢false (sym e ∙ rw is refl);
  no_return = λ is. true≢false (sym e ∙ rw is refl);
}

-- an octet that stands as it is may stand anywhere, or is SP or TAB with others after it
stands_is : (octet : ℕ) (last : Bool) → stands octet last ≡ true → (is_literal octet ≡ true) ⊎ ((is_blank octet ≡ true) × (last ≡ false))
stands_is octet last e = elim (cases_Bool (is_literal octet)) [
  | inl literal ↦ inl literal
  | inr other ↦ elim (cases_Bool (is_blank octet)) [
    | inl blank ↦ elim (cases_Bool last) [
      | inl ends ↦ absurd (true≢false (sym e ∙ rw (other, blank, ends) refl))
      | inr more ↦ inr (blank, more)
    ]
    | inr neither ↦ absurd (true≢false (sym e ∙ rw (other, neither) refl))
  ]
]

-- ---- digits, for each of the 256 octets

every : (ℕ → Bool) → ℕ → Bool
every test zero = true
every test (suc n) = test n && every test n

and_left : (a b : Bool) → (a && b) ≡ true → a ≡ true
and_left true b e = refl
and_left false b e = e

and_right : (a b : Bool) → (a && b) ≡ true → b ≡ true
and_right true b e = e
and_right false b e = absurd (true≢false (sym e))

every_at : (test : ℕ → Bool) (n i : ℕ) → every test n ≡ true → i < n → test i ≡ true
unfolding every
every_at test zero i e lt = absurd (omega arith)
every_at test (suc n) i e lt = elim (cases_Bool (i == n)) [
  | inl last ↦ rw (eqb-true i n last) (and_left (test n) (every test n) e)
  | inr before ↦ let ne = eqb-false i n before in every_at test n i (and_right (test n) (every test n) e) (omega arith)
]

digits_read : ℕ → Bool
digits_read octet =
    is_hex (hex_of (octet / 16)) && (is_hex (hex_of (octet % 16)) && ((16 * digit_value (hex_of (octet / 16)) + digit_value (hex_of (octet % 16))) == octet))

all_read : every digits_read 256 ≡ true
unfolding every digits_read
all_read = refl

decoded-digits : (octet : ℕ) (text : List ℕ) → octet < 256 → decoding_of (61 ∷ hex_of (octet / 16) ∷ hex_of (octet % 16) ∷ text) ≡ octet ∷ decoding_of text
unfolding digits_read
decoded-digits octet text small =
    let reads = every_at digits_read 256 octet all_read small in
    let value = (16 * digit_value (hex_of (octet / 16)) + digit_value (hex_of (octet % 16))) == octet in
    let second = and_right (is_hex (hex_of (octet / 16))) (is_hex (hex_of (octet % 16)) && value) reads in
    decoded-escape (hex_of (octet / 16)) (hex_of (octet % 16)) text (and_left (is_hex (hex_of (octet / 16))) (is_hex (hex_of (octet % 16)) && value) reads)
    (and_left (is_hex (hex_of (octet % 16))) value second)
    ∙ ap (λ x. x ∷ decoding_of text) (eqb-true _ octet (and_right (is_hex (hex_of (octet % 16))) value second))

-- ---- a line's tokens

none_is : (octets : List ℕ) → is_none octets ≡ false → 0 < length octets
none_is [] e = absurd (true≢false e)
none_is (octet ∷ rest) e = omega arith

-- tokens, and after them a text that isn't blank up to its first break: also they aren't
tokens_firm : (n : ℕ) (octets after : List ℕ) → 0 < length octets → n ≤ length octets → (n < length octets → IsFirm after) → IsFirm (joined (take n (tokens_of octets)) ++ after)
tokens_firm zero octets after some within firm = firm some
tokens_firm (suc n) [] after some within firm = absurd (omega arith)
tokens_firm (suc n) (octet ∷ rest) after some within firm =
    let more = joined (take n (tokens_of rest)) in
    let assoc = append_assoc (token_of octet (is_none rest)) more after in
    elim (cases_Bool (stands octet (is_none rest))) [
      | inl e ↦ elim (stands_is octet (is_none rest) e) [
        | inl literal ↦
            let is = literal_is octet literal in
            rw (assoc, e) (firm_here octet (more ++ after) is.plain.no_blank is.no_feed (no_break_of octet (more ++ after) is.no_return))
        | inr (blank, others) ↦ rw (assoc, e) (firm_after octet (more ++ after) blank (tokens_firm n rest after (none_is rest others) (omega arith) (λ lt. firm (omega arith))))
      ]
      | inr e ↦ rw (assoc, e) (firm_here 61 (hex_of (octet / 16) ∷ hex_of (octet % 16) ∷ (more ++ after)) refl (λ is. omega (arith, is)) refl)
    ]

tokens_read : (n : ℕ) (octets after : List ℕ) → IsOctets octets → n ≤ length octets → (n < length octets → IsFirm after)
    → decoding_of (joined (take n (tokens_of octets)) ++ after) ≡ take n octets ++ decoding_of after
tokens_read zero octets after are within firm = refl
tokens_read (suc n) [] after are within firm = absurd (omega arith)
tokens_read (suc n) (octet ∷ rest) after are within firm =
    let more = joined (take n (tokens_of rest)) in
    let assoc = append_assoc (token_of octet (is_none rest)) more after in
    let small : octet < 256 = All-head (λ octet. octet < 256) octet rest are in
    let read = tokens_read n rest after (All-tail (λ octet. octet < 256) octet rest are) (omega arith) (λ lt. firm (omega arith)) in
    elim (cases_Bool (stands octet (is_none rest))) [
      | inl e ↦ elim (stands_is octet (is_none rest) e) [
        | inl literal ↦ rw (assoc, e) (decoded-plain octet (more ++ after) (literal_is octet literal).plain ∙ ap (λ l. octet ∷ l) read)
        | inr (blank, others) ↦
            rw (assoc, e) (decoded-blank octet (more ++ after) blank (tokens_firm n rest after (none_is rest others) (omega arith) (λ lt. firm (omega arith))) ∙ ap (λ l. octet ∷ l) read)
      ]
      | inr e ↦ rw (assoc, e) (decoded-digits octet (more ++ after) small ∙ ap (λ l. octet ∷ l) read)
    ]

-- ---- the lines one after another

soft_firm : (text : List ℕ) → IsFirm (soft_break ++ text)
soft_firm text = firm_here 61 (13 ∷ 10 ∷ text) refl (λ is. omega (arith, is)) refl

all_taken : (octets : List ℕ) (k : ℕ) → length octets ≤ k → take k octets ≡ octets
all_taken [] zero within = refl
all_taken [] (suc k) within = refl
all_taken (octet ∷ rest) zero within = absurd (omega arith)
all_taken (octet ∷ rest) (suc k) within = ap (λ l. octet ∷ l) (all_taken rest k (omega arith))

line_last : (tokens : List (List ℕ)) → is_last_line tokens ≡ true → (first_line tokens ≡ joined (take (length tokens) tokens)) × (tokens_of_line tokens ≡ length tokens)
line_last tokens e = (rw e (append-nil (joined (take (length tokens) tokens))), rw e refl)

line_more : (tokens : List (List ℕ)) → is_last_line tokens ≡ false → (first_line tokens ≡ joined (take (run_of 75 tokens) tokens) ++ soft_break) × (tokens_of_line tokens ≡ run_of 75 tokens)
line_more tokens e = (rw e refl, rw e refl)

run_within : (room : ℕ) (tokens : List (List ℕ)) → run_of room tokens ≤ length tokens
run_within room [] = omega arith
run_within room (token ∷ rest) = elim (cases_Bool (nat_le (length token) room)) [
  | inl fits ↦ let more = run_within (room - length token) rest in rw fits (omega arith)
  | inr over ↦ rw over (omega arith)
]

IsOctets-drop : (k : ℕ) (octets : List ℕ) → IsOctets octets → IsOctets (drop k octets)
IsOctets-drop zero octets are = are
IsOctets-drop (suc k) [] are = are
IsOctets-drop (suc k) (octet ∷ rest) are = IsOctets-drop k rest (All-tail (λ octet. octet < 256) octet rest are)

lines_read : (n : ℕ) (octets : List ℕ) → IsOctets octets → length octets ≤ n → decoding_of (in_lines n (tokens_of octets)) ≡ octets
lines_read n [] are within = ap decoding_of (in_lines_none n) ∙ decoded-none
lines_read zero (octet ∷ rest) are within = absurd (omega arith)
lines_read (suc n) (octet ∷ rest) are within =
    let octets : List ℕ = octet ∷ rest in
    let tokens = tokens_of octets in
    let count = length-tokens_of octets in
    elim (cases_Bool (is_last_line tokens)) [
      | inl e ↦
          let last = line_last tokens e in
          let none : in_lines n (drop (tokens_of_line tokens) tokens) ≡ [] =
          ap (in_lines n) (drop_all (tokens_of_line tokens) tokens (omega (arith, last.1))) ∙ in_lines_none n in
          ap decoding_of (λ i. last.0 i ++ none i)
          ∙ tokens_read (length tokens) octets [] are (omega (arith, count)) (λ lt. absurd (omega (arith, count)))
          ∙ ap (λ l. take (length tokens) octets ++ l) decoded-none
          ∙ append-nil (take (length tokens) octets)
          ∙ all_taken octets (length tokens) (omega (arith, count))
      | inr e ↦
          let more = line_more tokens e in
          let k = run_of 75 tokens in
          let within_tokens = run_within 75 tokens in
          let some = run_some octets (omega arith) in
          let left = drop k octets in
          let text = in_lines n (tokens_of left) in
          let after : in_lines n (drop (tokens_of_line tokens) tokens) ≡ text = ap (λ m. in_lines n (drop m tokens)) more.1 ∙ ap (in_lines n) (tokens_drop k octets) in
          ap decoding_of (λ i. more.0 i ++ after i)
          ∙ ap decoding_of (append_assoc (joined (take k tokens)) soft_break text)
          ∙ tokens_read k octets (soft_break ++ text) are (omega (arith, within_tokens, count)) (λ lt. soft_firm text)
          ∙ ap (λ l. take k octets ++ l) (decoded-soft text ∙ lines_read n left (IsOctets-drop k octets are) (omega (arith, some, length-drop k octets)))
          ∙ take-append-drop k octets
    ]

pub law : (octets : List ℕ) → IsOctets octets → decoding_of (encoding_of octets) ≡ octets
unfolding encoding_of
law octets are = lines_read (length octets) octets are (omega arith)
