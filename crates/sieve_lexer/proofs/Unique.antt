-- Each piece of a script ends at one place: separators, characters, lines, strings.
use Rattle.std.proofs.Common.{◌≡◌, ◌≢◌, ℕ, ◌+◌, ◌<◌, ◌≤◌, Bool, true, false, List, refl, sym, ◌∙◌, ap, subst, inl, inr, arith, length, get_or}
use Rattle.std.specs.Prelude.{Option, Some, None, MatchOption, map, codes, slice_range}
use Rattle.std.specs.Char.{to_ascii_lowercase}
use Rattle.std.proofs.lemmas.Bool.Decides.{nat_tests}
use Rattle.std.proofs.lemmas.Bool.{cases_order, cases_lt, true≢false}
use Rattle.std.proofs.lemmas.List.{get_or_past}
use Rattle.sieve_lexer.specs.Chain.{Leads, Stops, IsRun}
use Rattle.sieve_lexer.specs.Classes.{is_white_space, is_not_line_feed}
use Rattle.sieve_lexer.specs.Separators.{IsBracketComment, IsSeparator}
use Rattle.sieve_lexer.specs.Strings.{IsCharacter, IsQuotedRest, IsOpeningEnd, IsOpeningLine, IsLine, IsClosingLine, IsContentLine, IsMultiLineRest}
use Rattle.octets.specs.Blank.{is_blank}
use Rattle.sieve_lexer.proofs.Steps.{IsSingle, leads_meet, run_unique}

-- an octet that isn't 0 stands within the script
pub inside : (s : List ℕ) (i x : ℕ) → get_or s i 0 ≡ x → 0 < x → i < length s
inside s i x e pos = elim (cases_lt i (length s)) [ inl lt ↦ lt | inr past ↦ absurd (let z = get_or_past s i 0 past in omega arith) ]

module _ (s : List ℕ) where
  line_feed_at : (i : ℕ) → is_not_line_feed (get_or s i 0) ≡ false → get_or s i 0 ≡ 10
  line_feed_at i h = grind (arith, nat_tests)

  not_line_feed_at : (i : ℕ) → get_or s i 0 ≢ 10 → is_not_line_feed (get_or s i 0) ≡ true
  not_line_feed_at i h = grind (arith, nat_tests)

  -- the octet at a place fails a test that the octet it equals fails
  fails : (test : ℕ → Bool) (a x : ℕ) → get_or s a 0 ≡ x → test x ≡ false → test (get_or s a 0) ≡ true → ⊥
  fails test a x e not_x passed = true≢false (sym passed ∙ ap test e ∙ not_x)

  bracket_unique : (a b c : ℕ) → IsBracketComment s a b → IsBracketComment s a c → b ≡ c
  bracket_unique a b c (m, p) (n, q) =
      elim (cases_order m n) [
        | inl e ↦ omega arith
        | inr (inl lt) ↦ absurd (q.5 m (omega arith) lt p.4)
        | inr (inr lt) ↦ absurd (p.5 n (omega arith) lt q.4)
      ]

  pub separator_unique : IsSingle (IsSeparator s)
  separator_unique a b c (inl p) (inl q) = p.0 ∙ sym q.0
  separator_unique a b c (inl p) (inr (inl q)) = absurd (fails is_white_space a 35 q.0 refl p.2)
  separator_unique a b c (inl p) (inr (inr (n, q))) = absurd (fails is_white_space a 47 q.2 refl p.2)
  separator_unique a b c (inr (inl p)) (inl q) = absurd (fails is_white_space a 35 p.0 refl q.2)
  separator_unique a b c (inr (inl p)) (inr (inl q)) = run_unique _ s a b c p.1 q.1
  separator_unique a b c (inr (inl p)) (inr (inr (n, q))) = absurd (omega arith)
  separator_unique a b c (inr (inr (m, p))) (inl q) = absurd (fails is_white_space a 47 p.2 refl q.2)
  separator_unique a b c (inr (inr (m, p))) (inr (inl q)) = absurd (omega arith)
  separator_unique a b c (inr (inr p)) (inr (inr q)) = bracket_unique a b c p q

  pub character_unique : IsSingle (IsCharacter s)
  character_unique a b c (inl p) (inl q) = p.0 ∙ sym q.0
  character_unique a b c (inl p) (inr q) = absurd (p.3 q.2)
  character_unique a b c (inr p) (inl q) = absurd (q.3 p.2)
  character_unique a b c (inr p) (inr q) = p.0 ∙ sym q.0

  -- a quote begins no character
  pub quote_stops : (c : ℕ) → get_or s c 0 ≡ 34 → Stops (IsCharacter s) c
  quote_stops c e d (inl p) = p.2 e
  quote_stops c e d (inr p) = absurd (omega arith)

  pub quoted_unique : (a b c : ℕ) → IsQuotedRest s a b → IsQuotedRest s a c → b ≡ c
  quoted_unique a b c (m, p) (n, q) =
      let e = leads_meet (IsCharacter s) character_unique a m n p.1 (quote_stops m p.2) q.1 (quote_stops n q.2) in
      omega arith

  -- characters that stop elsewhere than at a quote are closed nowhere
  pub quoted_none : (a b : ℕ) → Leads (IsCharacter s) a b → Stops (IsCharacter s) b → get_or s b 0 ≢ 34 → Stops (IsQuotedRest s) a
  quoted_none a b p stop ne c (n, q) =
      let e = leads_meet (IsCharacter s) character_unique a b n p stop q.1 (quote_stops n q.2) in
      ne (ap (λ i. get_or s i 0) e ∙ q.2)

  pub line_unique : IsSingle (IsLine s)
  line_unique a b c p q =
      elim (cases_order p.last q.last) [
        | inl e ↦ p.break ∙ ap (λ n. n + 1) e ∙ sym q.break
        | inr (inl lt) ↦ absurd (q.same_line p.last p.from lt p.ended)
        | inr (inr lt) ↦ absurd (p.same_line q.last q.from lt q.ended)
      ]

  pub content_unique : IsSingle (IsContentLine s)
  content_unique a b c p q = line_unique a b c p.0 q.0

  pub closing_is_line : (a b : ℕ) → IsClosingLine s a b → IsLine s a b
  closing_is_line a b (dot, inl p) = record {
    last = a + 1;
    break = omega arith;
    from = omega arith;
    within = inside s (a + 1) 10 p.1 (omega arith);
    same_line = λ i from lt e. let same : i ≡ a = omega arith in let h = ap (λ j. get_or s j 0) same in omega arith;
    ended = p.1;
  }
  closing_is_line a b (dot, inr p) = record {
    last = a + 2;
    break = omega arith;
    from = omega arith;
    within = inside s (a + 2) 10 p.2 (omega arith);
    same_line = λ i from lt e. elim (cases_order i a) [
      | inl same ↦ let h = ap (λ j. get_or s j 0) same in omega arith
      | inr (inl below) ↦ omega arith
      | inr (inr above) ↦ let same : i ≡ a + 1 = omega arith in let h = ap (λ j. get_or s j 0) same in omega arith
    ];
    ended = p.2;
  }

  closing_stops : (a b : ℕ) → IsClosingLine s a b → Stops (IsContentLine s) a
  closing_stops a b p c q =
      let e = line_unique a b c (closing_is_line a b p) q.0 in
      q.1 (let P : ℕ → Type 0 = λ x. IsClosingLine s a x in subst P e p)

  pub multi_line_unique : (a b c : ℕ) → IsMultiLineRest s a b → IsMultiLineRest s a c → b ≡ c
  multi_line_unique a b c (m, p) (n, q) =
      let e = leads_meet (IsContentLine s) content_unique a m n p.0 (closing_stops m b p.1) q.0 (closing_stops n c q.1) in
      line_unique n b c (closing_is_line n b (let P : ℕ → Type 0 = λ x. IsClosingLine s x b in subst P e p.1)) (closing_is_line n c q.1)

  -- lines that no further line follows are closed nowhere
  pub multi_line_none : (a b : ℕ) → Leads (IsContentLine s) a b → Stops (IsLine s) b → Stops (IsMultiLineRest s) a
  multi_line_none a b p stop c (n, q) =
      let e = leads_meet (IsContentLine s) content_unique a b n p (λ d line. stop d line.0) q.0 (closing_stops n c q.1) in
      stop c (let P : ℕ → Type 0 = λ x. IsLine s x c in subst P (sym e) (closing_is_line n c q.1))

  pub opening_end_unique : (a b c : ℕ) → IsOpeningEnd s a b → IsOpeningEnd s a c → b ≡ c
  opening_end_unique a b c (inl p) (inl q) = omega arith
  opening_end_unique a b c (inl p) (inr (inl q)) = omega arith
  opening_end_unique a b c (inl p) (inr (inr (n, q))) = absurd (omega (arith, q.2.0))
  opening_end_unique a b c (inr (inl p)) (inl q) = omega arith
  opening_end_unique a b c (inr (inl p)) (inr (inl q)) = omega arith
  opening_end_unique a b c (inr (inl p)) (inr (inr (n, q))) = absurd (omega (arith, q.2.0))
  opening_end_unique a b c (inr (inr (m, p))) (inl q) = absurd (omega (arith, p.2.0))
  opening_end_unique a b c (inr (inr (m, p))) (inr (inl q)) = absurd (omega (arith, p.2.0))
  opening_end_unique a b c (inr (inr (m, p))) (inr (inr (n, q))) =
      let e = run_unique _ s a m n p.2.1 q.2.1 in omega arith

  -- what ends an opening line is no blank
  pub opening_end_unblank : (a b : ℕ) → IsOpeningEnd s a b → is_blank (get_or s a 0) ≡ true → ⊥
  opening_end_unblank a b (inl p) blank = fails is_blank a 10 p.1 refl blank
  opening_end_unblank a b (inr (inl p)) blank = fails is_blank a 13 p.1 refl blank
  opening_end_unblank a b (inr (inr (n, p))) blank = fails is_blank a 35 p.2.0 refl blank

  -- the end of an opening line begins within the script
  opening_end_inside : (a b : ℕ) → IsOpeningEnd s a b → a < length s
  opening_end_inside a b (inl p) = inside s a 10 p.1 (omega arith)
  opening_end_inside a b (inr (inl p)) = inside s a 13 p.1 (omega arith)
  opening_end_inside a b (inr (inr (n, p))) = inside s a 35 p.2.0 (omega arith)

  pub opening_unique : (a b c : ℕ) → IsOpeningLine s a b → IsOpeningLine s a c → b ≡ c
  opening_unique a b c (m, p) (n, q) =
      elim (cases_order m n) [
        | inl e ↦ opening_end_unique n b c (let P : ℕ → Type 0 = λ x. IsOpeningEnd s x b in subst P e p.3) q.3
        | inr (inl lt) ↦ absurd (opening_end_unblank m b p.3 (q.2 m p.1 lt))
        | inr (inr lt) ↦ absurd (opening_end_unblank n c q.3 (p.2 n q.1 lt))
      ]

  slash_none : (a : ℕ) → get_or s a 0 ≡ 47 → Stops (IsBracketComment s) a → Stops (IsSeparator s) a
  slash_none a e stop b (inl w) = fails is_white_space a 47 e refl w.2
  slash_none a e stop b (inr (inl h)) = absurd (omega arith)
  slash_none a e stop b (inr (inr p)) = stop b p

  -- a slash begins a separator where it begins a comment
  pub slash_separator : (a : ℕ) (answer : Option ℕ) → get_or s a 0 ≡ 47
      → MatchOption answer (Stops (IsBracketComment s) a) (IsBracketComment s a) → MatchOption answer (Stops (IsSeparator s) a) (IsSeparator s a)
  slash_separator a None e stop = slash_none a e stop
  slash_separator a (Some b) e p = inr (inr p)

  pub quoted_none_at_end : (a b : ℕ) → length s ≤ b → Leads (IsCharacter s) a b → Stops (IsQuotedRest s) a
  quoted_none_at_end a b past p =
      let none = get_or_past s b 0 past in
      quoted_none a b p (λ c q. elim q [ inl r ↦ omega arith | inr r ↦ omega arith ]) (λ e. omega arith)

  pub content_forward : (a b : ℕ) → IsContentLine s a b → a ≤ b
  content_forward a b (line, open_line) = omega (arith, line.from, line.break)

  comment_no_end : (a : ℕ) → get_or s a 0 ≡ 35 → Stops (IsLine s) a → Stops (IsOpeningEnd s) a
  comment_no_end a e stop b (inl p) = absurd (omega arith)
  comment_no_end a e stop b (inr (inl p)) = absurd (omega arith)
  comment_no_end a e stop b (inr (inr (c, p))) = stop b (record {
    last = c;
    break = p.0;
    from = p.2.1.from;
    within = p.1;
    same_line = λ i from lt f. fails is_not_line_feed i 10 f refl (p.2.1.all i from lt);
    ended = line_feed_at c (p.2.1.ended p.1);
  })

  -- a comment ends an opening line where a line break ends the comment
  pub comment_opening_end : (a : ℕ) (answer : Option ℕ) → get_or s a 0 ≡ 35
      → MatchOption answer (Stops (IsLine s) a) (IsLine s a) → MatchOption answer (Stops (IsOpeningEnd s) a) (IsOpeningEnd s a)
  comment_opening_end a None e stop = comment_no_end a e stop
  comment_opening_end a (Some b) e line = inr (inr (
    line.last,
    (
      line.break,
      line.within,
      (
        e,
        record {
          from = line.from;
          within = omega (arith, line.within);
          all = λ i from lt. not_line_feed_at i (line.same_line i from lt);
          ended = λ lt. ap is_not_line_feed line.ended;
        },
      ),
    ),
  ))

  no_opening_line : (a c b : ℕ) → IsRun is_blank s (a + 5) c → Stops (IsOpeningEnd s) c → IsOpeningLine s a b → ⊥
  no_opening_line a c b blanks stop (d, p) =
      elim (cases_order c d) [
        | inl e ↦ stop b (subst (λ x. IsOpeningEnd s x b) (sym e) p.3)
        | inr (inl lt) ↦ true≢false (sym (p.2 c blanks.from lt) ∙ blanks.ended (omega (arith, opening_end_inside d b p.3)))
        | inr (inr lt) ↦ opening_end_unblank d b p.3 (blanks.all d p.1 lt)
      ]

  -- an opening line, from its parts
  pub opening_line_at : (a c : ℕ) (answer : Option ℕ) → map to_ascii_lowercase (slice_range s a (a + 5)) ≡ codes "text:" → IsRun is_blank s (a + 5) c
      → MatchOption answer (Stops (IsOpeningEnd s) c) (IsOpeningEnd s c) → MatchOption answer (Stops (IsOpeningLine s) a) (IsOpeningLine s a)
  opening_line_at a c None word blanks stop = λ b p. no_opening_line a c b blanks stop p
  opening_line_at a c (Some b) word blanks end = (c, (word, blanks.from, blanks.all, end))
