-- What is read at a place is the one token that begins there, kind by kind.
use Rattle.std.proofs.Common.{◌≡◌, ◌≢◌, ℕ, ◌+◌, ◌<◌, ◌≤◌, ◌^◌, true, false, List, refl, sym, ◌∙◌, ap, subst, inl, inr, arith, length, get_or, take, drop, ◌-◌}
use Rattle.std.specs.Prelude.{Some, None, slice_range, map, codes}
use Rattle.std.specs.Char.{is_ascii_digit, to_ascii_lowercase}
use Rattle.std.proofs.lemmas.List.{length-map, get_or-take, get_or-map, get_or-drop}
use Rattle.std.proofs.lemmas.Bool.{true≢false, cases_lt, lt-ltb}
use Rattle.std.proofs.lemmas.Bool.Decides.{nat_tests}
use Rattle.sieve_lexer.specs.Classes.{begins_identifier, continues_identifier}
use Rattle.sieve_lexer.specs.Chain.{Stops, IsRun}
use Rattle.sieve_lexer.specs.Strings.{IsQuotedRest, IsOpeningEnd, IsOpeningLine, IsMultiLineRest}
use Rattle.sieve_lexer.specs.Texts.{IsTextOf, IsIdentifier, IsNumber, IsSuffix, AreDigits, sign_octet}
use Rattle.sieve_lexer.specs.Tokens.{IsToken, NoToken}
use Rattle.sieve_lexer.specs.Values.{number_value, below_limit, is_unit}
use Rattle.sieve_lexer.specs.declared.token.TokenKind.{TokenKind}
use Rattle.sieve_lexer.specs.declared.token.TokenKind.TheVariants.{Identifier, Tag, Number, QuotedString, MultiLineString}
use Rattle.sieve_lexer.proofs.Unique.{opening_unique, multi_line_unique, quoted_unique}
use Rattle.sieve_lexer.proofs.Beginnings.{class_of, kind_class, token_from, none_from, begins_with, class_letter, class_digit, word_kind}
use Rattle.sieve_lexer.proofs.Numbers.{above_limit}

begins_continues : (o : ℕ) → begins_identifier o ≡ true → continues_identifier o ≡ true
begins_continues o h = grind (arith, nat_tests)

-- what the octet of a sign tells of its kind
sign_class : (k : TokenKind) (o : ℕ) → sign_octet k ≡ Some o → 0 < kind_class k
sign_class Identifier o e = absurd (cc)
sign_class Tag o e = absurd (cc)
sign_class Number o e = absurd (cc)
sign_class QuotedString o e = absurd (cc)
sign_class MultiLineString o e = absurd (cc)
sign_class _ o e = omega arith

sign_number : (k : TokenKind) (o : ℕ) → sign_octet k ≡ Some o → k ≡ Number → ⊥
sign_number k o e n = let same : sign_octet k ≡ None = ap sign_octet n in cc

sign_from_class : (k : TokenKind) (o : ℕ) → kind_class k ≡ o + 2 → o ≢ 58 → o ≢ 34 → sign_octet k ≡ Some o
sign_from_class Identifier o e colon quote = absurd (omega arith)
sign_from_class Tag o e colon quote = absurd (omega arith)
sign_from_class Number o e colon quote = absurd (omega arith)
sign_from_class QuotedString o e colon quote = absurd (omega arith)
sign_from_class MultiLineString o e colon quote = absurd (omega arith)
sign_from_class _ o e colon quote = ap Some (omega arith)

sign_text_all : (s : List ℕ) (k : TokenKind) (a : ℕ) → sign_octet k ≡ Some (get_or s a 0) → IsTextOf k s a (a + 1)
sign_text_all s Identifier a e = absurd (cc)
sign_text_all s Tag a e = absurd (cc)
sign_text_all s Number a e = absurd (cc)
sign_text_all s QuotedString a e = absurd (cc)
sign_text_all s MultiLineString a e = absurd (cc)
sign_text_all s _ a e = (refl, e)

sign_most_all : (s : List ℕ) (k : TokenKind) (a c : ℕ) → sign_octet k ≡ Some (get_or s a 0) → IsTextOf k s a c → c ≤ a + 1
sign_most_all s Identifier a c e p = absurd (cc)
sign_most_all s Tag a c e p = absurd (cc)
sign_most_all s Number a c e p = absurd (cc)
sign_most_all s QuotedString a c e p = absurd (cc)
sign_most_all s MultiLineString a c e p = absurd (cc)
sign_most_all s _ a c e p = omega arith

colon_ends : (o : ℕ) → to_ascii_lowercase o ≡ 58 → continues_identifier o ≡ false
colon_ends o h = grind (arith, nat_tests)

digit_no_unit : (o : ℕ) → is_ascii_digit o ≡ true → is_unit o ≡ false
digit_no_unit o h = grind (arith, nat_tests)

-- the colon of `text:`
fifth : (u : List ℕ) → map to_ascii_lowercase (take 5 u) ≡ codes "text:" → to_ascii_lowercase (get_or u 4 0) ≡ 58
fifth u e =
    let len : length (take 5 u) ≡ 5 = sym (length-map (take 5 u) to_ascii_lowercase) ∙ ap length e in
    let lt : 4 < length (take 5 u) = omega arith in
    ap to_ascii_lowercase (sym (get_or-take 5 u 4 0 (omega arith))) ∙ sym (get_or-map to_ascii_lowercase (take 5 u) 4 0 0 lt) ∙ ap (λ l. get_or l 4 0) e

module _ (s : List ℕ) where
  -- quoted strings
  pub quoted_token : (a b : ℕ) → get_or s a 0 ≡ 34 → a < b → b ≤ length s → IsQuotedRest s (a + 1) b → IsToken s (record { kind = QuotedString; start = a; end = b })
  quoted_token a b e some within rest =
      token_from s QuotedString a b (omega arith) some within (e, rest) (λ c p. let same = quoted_unique s (a + 1) b c rest p.1 in omega arith) (λ k. cc)

  pub no_quoted_token : (a : ℕ) → get_or s a 0 ≡ 34 → Stops (IsQuotedRest s) (a + 1) → NoToken s a
  no_quoted_token a e stop = none_from s a 36 (omega arith) (ap class_of e) (λ c p. stop c p.text.1)

  -- identifiers and tags
  identifier_from : (a b : ℕ) → a < length s → begins_identifier (get_or s a 0) ≡ true → IsRun continues_identifier s a b → IsIdentifier s a b
  identifier_from a b lt first run = record {
    some = elim (cases_lt a b) [
      | inl h ↦ h
      | inr h ↦ let same : b ≡ a = omega (arith, run.from) in
          absurd (true≢false (sym (begins_continues (get_or s a 0) first) ∙ ap (λ i. continues_identifier (get_or s i 0)) (sym same) ∙ run.ended (omega arith)))
    ];
    within = run.within;
    first = first;
    all = run.all;
  }

  identifier_most : (a b c : ℕ) → IsRun continues_identifier s a b → IsIdentifier s a c → c ≤ b
  identifier_most a b c run p =
      elim (cases_lt b c) [
        | inl lt ↦ absurd (true≢false (sym (p.all b run.from lt) ∙ run.ended (omega (arith, p.within))))
        | inr le ↦ le
      ]

  pub tag_token : (a b : ℕ) → get_or s a 0 ≡ 58 → a + 1 < length s → begins_identifier (get_or s (a + 1) 0) ≡ true → IsRun continues_identifier s (a + 1) b
      → IsToken s (record { kind = Tag; start = a; end = b })
  tag_token a b e lt first run =
      let word = identifier_from (a + 1) b lt first run in
      token_from s Tag a b (omega arith) (omega (arith, word.some)) run.within (e, word) (λ c p. identifier_most (a + 1) b c run p.1) (λ k. cc)

  pub no_tag_token : (a : ℕ) → get_or s a 0 ≡ 58 → (begins_identifier (get_or s (a + 1) 0) ≡ true → length s ≤ a + 1) → NoToken s a
  no_tag_token a e out =
      none_from s a 60 (omega arith) (ap class_of e) (λ c p. let tag = p.text.1 in omega (arith, out tag.first, tag.some, tag.within))

  -- words: identifiers and multi-line strings
  pub identifier_token : (a b : ℕ) → a < length s → begins_identifier (get_or s a 0) ≡ true → Stops (IsOpeningLine s) a → IsRun continues_identifier s a b
      → IsToken s (record { kind = Identifier; start = a; end = b })
  identifier_token a b lt first stop run = record {
    some = (identifier_from a b lt first run).some;
    within = run.within;
    text = identifier_from a b lt first run;
    longest = λ k c p.
        elim (word_kind k (sym (begins_with s k a c p) ∙ class_letter (get_or s a 0) first)) [
          | inl e ↦ identifier_most a b c run (subst (λ x. IsTextOf x s a c) e p)
          | inr e ↦ let lines = subst (λ x. IsTextOf x s a c) e p in absurd (stop lines.0 lines.1.0)
        ];
    fits = λ k. cc;
    opened = λ c line. absurd (stop c line);
  }

  ends_after : (a b : ℕ) → IsOpeningEnd s a b → a < b
  ends_after a b (inl p) = omega arith
  ends_after a b (inr (inl p)) = omega arith
  ends_after a b (inr (inr (c, p))) = omega (arith, p.2.1.from)

  -- an identifier that begins an opening line ends at the colon
  identifier_short : (a b d : ℕ) → IsOpeningLine s a b → IsIdentifier s a d → d ≤ a + 4
  identifier_short a b d (c, line) p =
      let five : a + 5 - a ≡ 5 = omega arith in
      let word : map to_ascii_lowercase (take 5 (drop a s)) ≡ codes "text:" = rw five at line.0 in
      let at = get_or-drop a s 4 0 in
      elim (cases_lt (a + 4) d) [
        | inl lt ↦ absurd (true≢false (sym (p.all (a + 4) (omega arith) lt) ∙ colon_ends (get_or s (a + 4) 0) (rw at at (fifth (drop a s) word))))
        | inr le ↦ le
      ]

  pub multi_line_token : (a b c : ℕ) → begins_identifier (get_or s a 0) ≡ true → IsOpeningLine s a b → IsMultiLineRest s b c → a < b → b < c → c ≤ length s
      → IsToken s (record { kind = MultiLineString; start = a; end = c })
  multi_line_token a b c first opening rest ab bc within = record {
    some = omega arith;
    within = within;
    text = (b, (opening, rest));
    longest = λ k d p.
        elim (word_kind k (sym (begins_with s k a d p) ∙ class_letter (get_or s a 0) first)) [
          | inl e ↦ omega (arith, identifier_short a b d opening (subst (λ x. IsTextOf x s a d) e p), opening.1.1, ends_after opening.0 b opening.1.3)
          | inr e ↦ let lines = subst (λ x. IsTextOf x s a d) e p in
              let same = opening_unique s a b lines.0 opening lines.1.0 in
              let same_end = multi_line_unique s b c d rest (subst (λ i. IsMultiLineRest s i d) (sym same) lines.1.1) in omega arith
        ];
    fits = λ k. cc;
    opened = λ d line. refl;
  }

  pub no_word_token : (a b : ℕ) → begins_identifier (get_or s a 0) ≡ true → IsOpeningLine s a b → Stops (IsMultiLineRest s) b → NoToken s a
  no_word_token a b first opening stop t at p =
      let kind = p.opened b (subst (λ i. IsOpeningLine s i b) (sym at) opening) in
      let lines = subst (λ x. IsTextOf x s t.start t.end) kind p.text in
      let same = opening_unique s a b lines.0 opening (subst (λ i. IsOpeningLine s i lines.0) at lines.1.0) in
      stop t.end (subst (λ i. IsMultiLineRest s i t.end) (sym same) lines.1.1)

  -- numbers
  number_from : (a d b : ℕ) → a < length s → is_ascii_digit (get_or s a 0) ≡ true → IsRun is_ascii_digit s a d → IsSuffix s d b → IsNumber s a b
  number_from a d b lt first run suffix = (
    d,
    (
      record {
        some = elim (cases_lt a d) [
          | inl h ↦ h
          | inr h ↦ let same : d ≡ a = omega (arith, run.from) in
              absurd (true≢false (sym first ∙ ap (λ i. is_ascii_digit (get_or s i 0)) (sym same) ∙ run.ended (omega arith)))
        ];
        within = run.within;
        all = run.all;
      },
      suffix,
    ),
  )

  digits_most : (a d c : ℕ) → IsRun is_ascii_digit s a d → AreDigits s a c → c ≤ d
  digits_most a d c run p =
      elim (cases_lt d c) [
        | inl lt ↦ absurd (true≢false (sym (p.all d run.from lt) ∙ run.ended (omega (arith, p.within))))
        | inr le ↦ le
      ]

  number_most : (a d b c : ℕ) → IsRun is_ascii_digit s a d → ((e : ℕ) → IsSuffix s d e → e ≤ b) → IsNumber s a c → c ≤ b
  number_most a d b c run longest (m, (digits, suffix)) =
      let md = digits_most a d m run digits in
      let db = longest d (inl refl) in
      elim (cases_lt m d) [
        | inl lt ↦ elim suffix [
          | inl e ↦ omega arith
          | inr unit ↦ absurd (true≢false (sym unit.1 ∙ digit_no_unit (get_or s m 0) (run.all m (omega (arith, digits.some)) lt)))
        ]
        | inr ge ↦ let same : m ≡ d = omega arith in longest c (subst (λ i. IsSuffix s i c) same suffix)
      ]

  below : (n v : ℕ) → below_limit n ≡ Some v → n < 2 ^ 64
  below n v e = elim (cases_lt n (2 ^ 64)) [ inl lt ↦ lt | inr ge ↦ let none = above_limit n ge in absurd (cc) ]

  not_below : (n : ℕ) → below_limit n ≡ None → n < 2 ^ 64 → ⊥
  not_below n e lt = let some : below_limit n ≡ Some n = rw (lt-ltb n (2 ^ 64) lt) refl in cc

  pub number_token : (a d b v : ℕ) → a < length s → is_ascii_digit (get_or s a 0) ≡ true → IsRun is_ascii_digit s a d → IsSuffix s d b
      → ((e : ℕ) → IsSuffix s d e → e ≤ b) → b ≤ length s → below_limit (number_value (slice_range s a b)) ≡ Some v
      → IsToken s (record { kind = Number; start = a; end = b })
  unfolding number_from
  number_token a d b v lt first run suffix longest within e =
      let text = number_from a d b lt first run suffix in
      token_from s Number a b (omega arith) (omega (arith, text.1.0.some, longest text.0 (inl refl), longest d (inl refl))) within text (λ c p. number_most a d b c run longest p) (λ k. below _ v e)

  pub no_number_token : (a d b : ℕ) → a < length s → is_ascii_digit (get_or s a 0) ≡ true → IsRun is_ascii_digit s a d → IsSuffix s d b
      → ((e : ℕ) → IsSuffix s d e → e ≤ b) → below_limit (number_value (slice_range s a b)) ≡ None → NoToken s a
  no_number_token a d b lt first run suffix longest e =
      none_from s a 1 (omega arith) (class_digit (get_or s a 0) first) (λ c p.
      let same : c ≡ b = omega (arith, number_most a d b c run longest p.text, p.longest Number b (number_from a d b lt first run suffix)) in
      not_below _ e (subst (λ i. number_value (slice_range s a i) < 2 ^ 64) same (p.fits refl)))

  -- signs
  pub sign_token : (k : TokenKind) (a : ℕ) → a < length s → sign_octet k ≡ Some (get_or s a 0) → IsToken s (record { kind = k; start = a; end = a + 1 })
  sign_token k a lt e = token_from s k a (a + 1) (sign_class k (get_or s a 0) e) (omega arith) (omega arith) (sign_text_all s k a e) (λ c p. sign_most_all s k a c e p) (λ n. absurd (sign_number k (get_or s a 0) e n))

  pub no_sign_token : (a : ℕ) → begins_identifier (get_or s a 0) ≡ false → is_ascii_digit (get_or s a 0) ≡ false → get_or s a 0 ≢ 58 → get_or s a 0 ≢ 34
      → ((k : TokenKind) → sign_octet k ≡ Some (get_or s a 0) → ⊥) → NoToken s a
  no_sign_token a letter digit colon quote none t at p =
      let own : class_of (get_or s a 0) ≡ get_or s a 0 + 2 = rw (letter, digit) refl in
      let here = sym (begins_with s t.kind t.start t.end p.text) ∙ ap (λ i. class_of (get_or s i 0)) at ∙ own in
      none t.kind (sign_from_class t.kind (get_or s a 0) here colon quote)
