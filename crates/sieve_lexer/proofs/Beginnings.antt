-- The octet with which a token begins tells its kind, save that a multi-line string begins as an identifier does.
use Rattle.std.proofs.Common.{◌≡◌, ℕ, ◌+◌, ◌<◌, ◌≤◌, ◌^◌, Bool, true, false, cond, ◌||◌, ◌==◌, List, [], ◌∷◌, zero, suc, ◌-◌, take, drop, add-zero, get_or-drop, refl, sym, ◌∙◌, ap, subst, ◌⊎◌, inl, inr, arith, length, get_or}
use Rattle.std.specs.Prelude.{slice_range, map}
use Rattle.std.specs.Char.{is_ascii_digit, to_ascii_lowercase}
use Rattle.std.proofs.lemmas.Bool.{true≢false, or_cases, eqb-true, cases_lt}
use Rattle.std.proofs.lemmas.Bool.Decides.{nat_tests}
use Rattle.sieve_lexer.specs.Classes.{begins_identifier, is_white_space}
use Rattle.sieve_lexer.specs.Chain.{Stops}
use Rattle.sieve_lexer.specs.Separators.{IsSeparator}
use Rattle.sieve_lexer.specs.Strings.{IsOpeningLine}
use Rattle.sieve_lexer.specs.Texts.{IsTextOf}
use Rattle.sieve_lexer.specs.Tokens.{IsToken, NoToken}
use Rattle.sieve_lexer.specs.Values.{number_value}
use Rattle.sieve_lexer.specs.declared.token.Token.{Token}
use Rattle.sieve_lexer.specs.declared.token.TokenKind.{TokenKind}
use Rattle.sieve_lexer.specs.declared.token.TokenKind.TheVariants.{Identifier, Tag, Number, QuotedString, MultiLineString, Semicolon, Comma, OpeningBrace, ClosingBrace, OpeningParenthesis, ClosingParenthesis, OpeningBracket, ClosingBracket}

-- the class of an octet: 0 for what begins an identifier, 1 for a digit, and each other octet is a class of its own
abbrev pub class_of : ℕ → ℕ
class_of octet = cond (begins_identifier octet) 0 (cond (is_ascii_digit octet) 1 (octet + 2))

-- the class of the octet with which a kind begins
abbrev pub kind_class : TokenKind → ℕ
kind_class Identifier = 0
kind_class MultiLineString = 0
kind_class Number = 1
kind_class Tag = class_of 58
kind_class QuotedString = class_of 34
kind_class Semicolon = class_of 59
kind_class Comma = class_of 44
kind_class OpeningBrace = class_of 123
kind_class ClosingBrace = class_of 125
kind_class OpeningParenthesis = class_of 40
kind_class ClosingParenthesis = class_of 41
kind_class OpeningBracket = class_of 91
kind_class ClosingBracket = class_of 93

-- the one kind of a class other than 0
abbrev pub kind_of : ℕ → TokenKind
kind_of n = cond (n == 1) Number (cond (n == 60) Tag (cond (n == 36) QuotedString (cond (n == 61) Semicolon (cond (n == 46) Comma
    (cond (n == 125) OpeningBrace (cond (n == 127) ClosingBrace (cond (n == 42) OpeningParenthesis (cond (n == 43) ClosingParenthesis
    (cond (n == 93) OpeningBracket (cond (n == 95) ClosingBracket Identifier))))))))))

-- whether a class is that of a kind
abbrev pub is_kind_class : ℕ → Bool
is_kind_class n = (((n == 0) || (n == 1)) || ((n == 60) || (n == 36))) || ((((n == 61) || (n == 46)) || ((n == 125) || (n == 127))) || (((n == 42) || (n == 43)) || ((n == 93) || (n == 95))))

kind_class_is : (k : TokenKind) → is_kind_class (kind_class k) ≡ true
kind_class_is Identifier = refl
kind_class_is _ = refl

pub kind_only : (k : TokenKind) → 0 < kind_class k → k ≡ kind_of (kind_class k)
kind_only Identifier pos = absurd (omega arith)
kind_only MultiLineString pos = absurd (omega arith)
kind_only _ pos = refl

pub word_kind : (k : TokenKind) → kind_class k ≡ 0 → (k ≡ Identifier) ⊎ (k ≡ MultiLineString)
word_kind Identifier e = inl refl
word_kind MultiLineString e = inr refl
word_kind _ e = absurd (omega arith)

pub class_letter : (o : ℕ) → begins_identifier o ≡ true → class_of o ≡ 0
class_letter o h = rw h refl

digit_no_letter : (o : ℕ) → is_ascii_digit o ≡ true → begins_identifier o ≡ false
digit_no_letter o h = grind (arith, nat_tests)

pub class_digit : (o : ℕ) → is_ascii_digit o ≡ true → class_of o ≡ 1
class_digit o h = rw (digit_no_letter o h, h) refl

lowercase_t : (o : ℕ) → to_ascii_lowercase o ≡ 116 → begins_identifier o ≡ true
lowercase_t o h = grind (arith, nat_tests)

token_same : (k l : TokenKind) (a b c d : ℕ) → k ≡ l → a ≡ b → c ≡ d
    → ◌≡◌ {A = Token} (record { kind = k; start = a; end = c }) (record { kind = l; start = b; end = d })
token_same k l a b c d p q r = cc

pub apart : (k : TokenKind) (o x : ℕ) → o ≡ x → is_kind_class (class_of x) ≡ false → class_of o ≡ kind_class k → ⊥
apart k o x e not_x f = true≢false (sym (kind_class_is k) ∙ ap is_kind_class (sym f ∙ ap class_of e) ∙ not_x)

white_space_class : (k : TokenKind) (o : ℕ) → is_white_space o ≡ true → class_of o ≡ kind_class k → ⊥
white_space_class k o h f =
    elim (or_cases ((o == 32) || (o == 9)) ((o == 13) || (o == 10)) h) [
      | inl g ↦ elim (or_cases (o == 32) (o == 9) g) [ inl e ↦ apart k o 32 (eqb-true o 32 e) refl f | inr e ↦ apart k o 9 (eqb-true o 9 e) refl f ]
      | inr g ↦ elim (or_cases (o == 13) (o == 10) g) [ inl e ↦ apart k o 13 (eqb-true o 13 e) refl f | inr e ↦ apart k o 10 (eqb-true o 10 e) refl f ]
    ]

first_letter : (n : ℕ) (u r : List ℕ) → map to_ascii_lowercase (take n u) ≡ 116 ∷ r → to_ascii_lowercase (get_or u 0 0) ≡ 116
first_letter zero u r e = cc
first_letter (suc n) [] r e = cc
first_letter (suc n) (x ∷ u) r e = cc

module _ (s : List ℕ) where
  pub opening_class : (a b : ℕ) → IsOpeningLine s a b → class_of (get_or s a 0) ≡ 0
  opening_class a b (c, p) =
      let first = first_letter (a + 5 - a) (drop a s) (101 ∷ 120 ∷ 116 ∷ 58 ∷ []) p.0 in
      class_letter (get_or s a 0) (lowercase_t (get_or s a 0) (let at = get_or-drop a s 0 0 in rw (at, add-zero) at first))

  at_octet : (a x : ℕ) → get_or s a 0 ≡ x → class_of (get_or s a 0) ≡ class_of x
  at_octet a x e = ap class_of e

  pub begins_with : (k : TokenKind) (a b : ℕ) → IsTextOf k s a b → class_of (get_or s a 0) ≡ kind_class k
  begins_with Identifier a b p = class_letter (get_or s a 0) p.first
  begins_with MultiLineString a b (c, p) = opening_class a c p.0
  begins_with Number a b (c, p) = class_digit (get_or s a 0) (p.0.all a (omega arith) p.0.some)
  begins_with Tag a b p = at_octet a 58 p.0
  begins_with QuotedString a b p = at_octet a 34 p.0
  begins_with Semicolon a b p = at_octet a 59 (cc)
  begins_with Comma a b p = at_octet a 44 (cc)
  begins_with OpeningBrace a b p = at_octet a 123 (cc)
  begins_with ClosingBrace a b p = at_octet a 125 (cc)
  begins_with OpeningParenthesis a b p = at_octet a 40 (cc)
  begins_with ClosingParenthesis a b p = at_octet a 41 (cc)
  begins_with OpeningBracket a b p = at_octet a 91 (cc)
  begins_with ClosingBracket a b p = at_octet a 93 (cc)

  pub same_kind : (k : TokenKind) (a b n : ℕ) → 0 < n → class_of (get_or s a 0) ≡ n → IsTextOf k s a b → k ≡ kind_of n
  same_kind k a b n pos e p =
      let f : kind_class k ≡ n = sym (begins_with k a b p) ∙ e in
      kind_only k (omega arith) ∙ ap kind_of f

  -- a text of a kind of its own is a token where no text of that kind is longer
  pub token_from : (k : TokenKind) (a b : ℕ) → 0 < kind_class k → a < b → b ≤ length s → IsTextOf k s a b
      → ((c : ℕ) → IsTextOf k s a c → c ≤ b) → (k ≡ Number → number_value (slice_range s a b) < 2 ^ 64)
      → IsToken s (record { kind = k; start = a; end = b })
  token_from k a b pos some within text most fits =
      let here = begins_with k a b text in
      record {
        some = some;
        within = within;
        text = text;
        longest = λ j c other. most c (subst (λ x. IsTextOf x s a c) (same_kind j a c (kind_class k) pos here other ∙ sym (kind_only k pos)) other);
        fits = fits;
        opened = λ c line. absurd (let zero_class = opening_class a c line in omega arith);
      }

  -- where no token of the one kind begins that the octet tells, no token begins
  pub none_from : (a n : ℕ) → 0 < n → class_of (get_or s a 0) ≡ n
      → ((c : ℕ) → IsToken s (record { kind = kind_of n; start = a; end = c }) → ⊥) → NoToken s a
  none_from a n pos here none t at p =
      let k = same_kind t.kind t.start t.end n pos (ap (λ i. class_of (get_or s i 0)) at ∙ here) p.text in
      none t.end (subst (λ (u : Token). IsToken s u) (token_same t.kind (kind_of n) t.start a t.end t.end k at refl) p)

  multi_line_too : (t u : Token) → t.start ≡ u.start → IsToken s t → IsToken s u → t.kind ≡ MultiLineString → u.kind ≡ MultiLineString
  multi_line_too t u at p q e =
      let text = subst (λ k. IsTextOf k s t.start t.end) e p.text in
      q.opened text.0 (subst (λ i. IsOpeningLine s i text.0) at text.1.0)

  kinds_agree : (t u : Token) → t.start ≡ u.start → IsToken s t → IsToken s u → t.kind ≡ u.kind
  kinds_agree t u at p q =
      let here : kind_class t.kind ≡ kind_class u.kind = sym (begins_with t.kind t.start t.end p.text) ∙ ap (λ i. class_of (get_or s i 0)) at ∙ begins_with u.kind u.start u.end q.text in
      elim (cases_lt 0 (kind_class t.kind)) [
        | inl pos ↦ kind_only t.kind pos ∙ ap kind_of here ∙ sym (kind_only u.kind (omega arith))
        | inr none ↦ elim (word_kind t.kind (omega arith)) [
          | inr e ↦ e ∙ sym (multi_line_too t u at p q e)
          | inl e ↦ elim (word_kind u.kind (omega arith)) [
            | inl f ↦ e ∙ sym f
            | inr f ↦ multi_line_too u t (sym at) q p f ∙ sym f
          ]
        ]
      ]

  -- two tokens that begin at one place are one
  pub token_unique : (t u : Token) → t.start ≡ u.start → IsToken s t → IsToken s u → t ≡ u
  token_unique t u at p q =
      let ends : t.end ≡ u.end = omega (
        arith,
        p.longest u.kind u.end (subst (λ i. IsTextOf u.kind s i u.end) (sym at) q.text),
        q.longest t.kind t.end (subst (λ i. IsTextOf t.kind s i t.end) at p.text),
      ) in
      token_same t.kind u.kind t.start u.start t.end u.end (kinds_agree t u at p q) at ends

  -- where a token begins, no separator does
  pub token_no_separator : (t : Token) → IsToken s t → Stops (IsSeparator s) t.start
  token_no_separator t p b (inl w) = white_space_class t.kind (get_or s t.start 0) w.2 (begins_with t.kind t.start t.end p.text)
  token_no_separator t p b (inr (inl h)) = apart t.kind (get_or s t.start 0) 35 h.0 refl (begins_with t.kind t.start t.end p.text)
  token_no_separator t p b (inr (inr (c, h))) = apart t.kind (get_or s t.start 0) 47 h.2 refl (begins_with t.kind t.start t.end p.text)
