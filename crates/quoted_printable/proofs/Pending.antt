-- The end of a line that has to be kept, because what it stands for depends on what follows.
use Rattle.std.proofs.Common.{◌≡◌, ◌≢◌, ℕ, ◌+◌, ◌-◌, ◌*◌, ◌<◌, ◌≤◌, ◌==◌, ◌&&◌, ◌||◌, Bool, true, false, List, [], ◌∷◌, ◌++◌, zero, suc, inl, inr, refl, sym, ◌∙◌, ap, arith, length, take, drop, get_or, subst}
use Rattle.std.specs.Char.{digit_value}
use Rattle.std.proofs.lemmas.Bool.{ne_eqb, eqb-true, eqb-false, cases_Bool, cases_order, true≢false}
use Rattle.std.proofs.lemmas.List.{append-nil, append_assoc, get_or-drop, length-drop, take-append-drop}
use Rattle.octets.specs.Blank.{is_blank}
use Rattle.octets.specs.Escapes.{is_hex}
use Rattle.text_lines.proofs.FirstLine.{no_break_of}
use Rattle.quoted_printable.specs.QuotedPrintable.{is_escape, unescaped, decoding_of}
use Rattle.quoted_printable.specs.Pieces.{all_follow, begins, follows, is_held}
use Rattle.quoted_printable.specs.Private.{HasNoFeed, IsChainFrom, IsPendingFrom, Reads}
use Rattle.quoted_printable.proofs.Decoded.{unescaped-other}
use Rattle.quoted_printable.proofs.Heads.{IsFirm, decoded-blank, decoded-escape, decoded-plain, firm_after, firm_here, hex_is}
use Rattle.quoted_printable.proofs.Held.{and_both, decoded-literal, opens, opens_front, opens_other, or_none, unescaped-literal}

-- ---- truth values

and_more : (a b : Bool) → a ≡ true → (a && b) ≡ false → b ≡ false
and_more true b e none = none
and_more false b e none = absurd (true≢false (sym e))

and_right : (a b : Bool) → b ≡ false → (a && b) ≡ false
and_right true b e = e
and_right false b e = refl

or_left : (a b : Bool) → a ≡ true → (a || b) ≡ true
or_left true b e = refl
or_left false b e = absurd (true≢false (sym e))

or_right : (a b : Bool) → b ≡ true → (a || b) ≡ true
or_right true b e = refl
or_right false b e = e

or_other : (a b : Bool) → a ≡ false → (a || b) ≡ true → b ≡ true
or_other true b e some = absurd (true≢false e)
or_other false b e some = some

-- ---- places at which octets follow one another

all_from : (x : ℕ) (w : List ℕ) → ((k : ℕ) → k < length w → follows (get_or (x ∷ w) k 0) (get_or (x ∷ w) (suc k) 0) ≡ true) → all_follow x w ≡ true
all_from x [] chain = refl
all_from x (y ∷ w) chain =
    let first : follows x y ≡ true = chain 0 (omega arith) in
    rw first (all_from y w (λ k lt. chain (suc k) (omega arith)))

all_at : (x : ℕ) (w : List ℕ) (k : ℕ) → all_follow x w ≡ true → k < length w → follows (get_or (x ∷ w) k 0) (get_or (x ∷ w) (suc k) 0) ≡ true
all_at x [] k all lt = absurd (omega arith)
all_at x (y ∷ w) zero all lt = (and_both (follows x y) (all_follow y w) all).0
all_at x (y ∷ w) (suc k) all lt = all_at y w k (and_both (follows x y) (all_follow y w) all).1 (omega arith)

held_from : (n : ℕ) (line : List ℕ) → n < length line → begins (get_or line n 0) ≡ true
    → ((k : ℕ) → n ≤ k → suc k < length line → follows (get_or line k 0) (get_or line (suc k) 0) ≡ true) → is_held (drop n line) ≡ true
held_from n [] within begin chain = absurd (omega arith)
held_from zero (x ∷ w) within begin chain =
    let first : begins x ≡ true = begin in
    rw first (all_from x w (λ k lt. chain k (omega arith) (omega arith)))
held_from (suc n) (x ∷ w) within begin chain = held_from n w (omega arith) begin (λ k le lt. chain (suc k) (omega arith) (omega arith))

begins_at : (n : ℕ) (line : List ℕ) → n < length line → is_held (drop n line) ≡ true → begins (get_or line n 0) ≡ true
begins_at n [] within is = absurd (omega arith)
begins_at zero (x ∷ w) within is = (and_both (begins x) (all_follow x w) is).0
begins_at (suc n) (x ∷ w) within is = begins_at n w (omega arith) is

follows_at : (n k : ℕ) (line : List ℕ) → is_held (drop n line) ≡ true → n ≤ k → suc k < length line → follows (get_or line k 0) (get_or line (suc k) 0) ≡ true
follows_at n k [] is le lt = absurd (omega arith)
follows_at zero k (x ∷ w) is le lt = all_at x w k (and_both (begins x) (all_follow x w) is).1 (omega arith)
follows_at (suc n) zero (x ∷ w) is le lt = absurd (omega arith)
follows_at (suc n) (suc k) (x ∷ w) is le lt = follows_at n k w is (omega arith) (omega arith)

-- what an octet follows may be the first one kept
begins_before : (last x : ℕ) → follows last x ≡ true → begins last ≡ true
begins_before last x e = elim (cases_Bool (begins last)) [
  | inl begin ↦ begin
  | inr none ↦
      let (no_equals, no_blank) = or_none (last == 61) (is_blank last) none in
      let other : follows last x ≡ false = rw (no_equals, no_blank) refl in
      absurd (true≢false (sym e ∙ other))
]

pub chain_more : (line : List ℕ) (start : ℕ) → 0 < start → follows (get_or line (start - 1) 0) (get_or line start 0) ≡ true
    → ((k : ℕ) → start ≤ k → suc k < length line → follows (get_or line k 0) (get_or line (suc k) 0) ≡ true)
    → (k : ℕ) → start - 1 ≤ k → suc k < length line → follows (get_or line k 0) (get_or line (suc k) 0) ≡ true
chain_more line start some first chain k le lt = elim (cases_order k (start - 1)) [
  | inl same ↦
      let next : suc k ≡ start = omega arith in
      ap (λ n. follows (get_or line n 0) (get_or line (suc k) 0)) same ∙ ap (λ n. follows (get_or line (start - 1) 0) (get_or line n 0)) next ∙ first
  | inr (inl before) ↦ absurd (omega arith)
  | inr (inr after) ↦ chain k (omega arith) lt
]

-- ---- the place from which it is kept

before_chain : (line : List ℕ) (start : ℕ) → IsChainFrom line start → (k : ℕ) → k < start → is_held (drop k line) ≡ false
before_chain line zero chain k lt = absurd (omega arith)
before_chain line (suc start) chain k lt = elim (cases_Bool (is_held (drop k line))) [
  | inl is ↦
      let within = chain.within in
      absurd (true≢false (sym (follows_at k start line is (omega arith) (omega arith)) ∙ chain.begun start refl))
  | inr other ↦ other
]

pub pending_begins : (line : List ℕ) (start : ℕ) → IsChainFrom line start → begins (get_or line start 0) ≡ true → IsPendingFrom line start
pending_begins line start chain begin = record {
  within = let within = chain.within in omega arith;
  held = held_from start line chain.within begin chain.follow;
  longest = before_chain line start chain;
}

drop_all : (line : List ℕ) → is_held (drop (length line) line) ≡ true
drop_all [] = refl
drop_all (x ∷ line) = drop_all line

first_begins : (line : List ℕ) (start : ℕ) → IsChainFrom line start → (k : ℕ) → k < length line → is_held (drop k line) ≡ true → begins (get_or line start 0) ≡ true
first_begins line start chain k lt is = elim (cases_order k start) [
  | inl same ↦ ap (λ n. begins (get_or line n 0)) (sym same) ∙ begins_at k line lt is
  | inr (inl before) ↦ absurd (true≢false (sym is ∙ before_chain line start chain k before))
  | inr (inr after) ↦ begins_before (get_or line start 0) (get_or line (suc start) 0) (chain.follow start (omega arith) (omega arith))
]

pub pending_none : (line : List ℕ) (start : ℕ) → IsChainFrom line start → begins (get_or line start 0) ≡ false → IsPendingFrom line (length line)
pending_none line start chain none = record {
  within = omega arith;
  held = drop_all line;
  longest = λ k lt. elim (cases_Bool (is_held (drop k line))) [
    | inl is ↦ absurd (true≢false (sym (first_begins line start chain k lt is) ∙ none))
    | inr other ↦ other
  ];
}

-- ---- what is before it

pub no_feed_after : (text : List ℕ) (n : ℕ) → ((k : ℕ) → n ≤ k → k < length text → get_or text k 0 ≢ 10) → HasNoFeed (drop n text)
no_feed_after text n none k lt e = none (n + k) (omega arith) (omega (arith, lt, length-drop n text)) (sym (get_or-drop n text k 0) ∙ e)

-- blanks and CR follow what may be the first octet kept
follows_gap : (last x : ℕ) → begins last ≡ true → (is_blank x || (x == 13)) ≡ true → follows last x ≡ true
follows_gap last x begin gap =
    let both : (begins last && (is_blank x || (x == 13))) ≡ true = rw (begin, gap) refl in
    or_right ((last == 61) && is_hex x) (begins last && (is_blank x || (x == 13))) both

firm_return : (y : ℕ) (w after : List ℕ) → is_blank y ≡ false → y ≡ 13 → all_follow y w ≡ false → HasNoFeed w → IsFirm (y ∷ (w ++ after))
firm_return y [] after other cr cut feed = absurd (true≢false cut)
firm_return y (z ∷ w) after other cr cut feed =
    firm_here y (z ∷ (w ++ after)) other (λ is. omega (arith, is, cr)) (and_right (y == 13) (z == 10) (ne_eqb z 10 (feed 0 (omega arith))))

-- a line isn't blank if not all of its octets can be kept
firm_unless : (last : ℕ) (w after : List ℕ) → begins last ≡ true → all_follow last w ≡ false → HasNoFeed w → IsFirm (w ++ after)
firm_unless last [] after begin cut feed = absurd (true≢false cut)
firm_unless last (y ∷ w) after begin cut feed = elim (cases_Bool (is_blank y)) [
  | inl blank ↦
      let more = and_more (follows last y) (all_follow y w) (follows_gap last y begin (or_left (is_blank y) (y == 13) blank)) cut in
      firm_after y (w ++ after) blank (firm_unless y w after (or_right (y == 61) (is_blank y) blank) more (λ k lt. feed (suc k) (omega arith)))
  | inr other ↦ elim (cases_Bool (y == 13)) [
    | inl cr ↦
        let more = and_more (follows last y) (all_follow y w) (follows_gap last y begin (or_right (is_blank y) (y == 13) cr)) cut in
        firm_return y w after other (eqb-true y 13 cr) more (λ k lt. feed (suc k) (omega arith))
    | inr plain ↦ firm_here y (w ++ after) other (feed 0 (omega arith)) (no_break_of y (w ++ after) (eqb-false y 13 plain))
  ]
]

abbrev Past : ℕ → List ℕ → List ℕ → Type 0
Past n line after = decoding_of (line ++ after) ≡ unescaped (take n line) ++ decoding_of (drop n line ++ after)

past_other : (x n : ℕ) (rest after : List ℕ) → x ≢ 61 → decoding_of (x ∷ (rest ++ after)) ≡ x ∷ decoding_of (rest ++ after) → Past n rest after → Past (suc n) (x ∷ rest) after
past_other x n rest after other first past =
    first
    ∙ ap (λ l. x ∷ l) past
    ∙ ap (λ l. l ++ decoding_of (drop n rest ++ after)) (sym (unescaped-other x (take n rest) other))

past_literal : (n : ℕ) (rest after : List ℕ) → IsFirm (rest ++ after) → opens (rest ++ after) ≡ false → Past n rest after → Past (suc n) (61 ∷ rest) after
past_literal n rest after firm closed past =
    let whole : take n rest ++ (drop n rest ++ after) ≡ rest ++ after =
    sym (append_assoc (take n rest) (drop n rest) after) ∙ ap (λ l. l ++ after) (take-append-drop n rest) in
    let front : opens (take n rest) ≡ false = opens_front (take n rest) (drop n rest ++ after) (ap opens whole ∙ closed) in
    decoded-literal (rest ++ after) firm closed
    ∙ ap (λ l. 61 ∷ l) past
    ∙ ap (λ l. l ++ decoding_of (drop n rest ++ after)) (sym (unescaped-literal (take n rest) front))

-- an octet that stands as it is
past_one : (x n : ℕ) (rest after : List ℕ) → HasNoFeed rest → is_held (x ∷ rest) ≡ false → (x ≡ 61 → opens (rest ++ after) ≡ false) → Past n rest after
    → Past (suc n) (x ∷ rest) after
past_one x n rest after feed cut closed past = elim (cases_Bool (begins x)) [
  | inr none ↦
      let (no_equals, no_blank) = or_none (x == 61) (is_blank x) none in
      let other = eqb-false x 61 no_equals in
      past_other x n rest after other (decoded-plain x (rest ++ after) (record { no_equals = other; no_blank = no_blank })) past
  | inl begin ↦
      let firm = firm_unless x rest after begin (and_more (begins x) (all_follow x rest) begin cut) feed in
      elim (cases_Bool (x == 61)) [
        | inl is ↦
            let same = eqb-true x 61 is in
            subst (λ m. Past (suc n) (m ∷ rest) after) (sym same) (past_literal n rest after firm (closed same) past)
        | inr other ↦ past_other x n rest after (eqb-false x 61 other) (decoded-blank x (rest ++ after) (or_other (x == 61) (is_blank x) other begin) firm) past
      ]
]

begins_no_hex : (x : ℕ) → begins x ≡ true → is_hex x ≡ false
begins_no_hex x begin = elim (cases_Bool (is_hex x)) [
  | inr other ↦ other
  | inl hex ↦
      let digit = hex_is x hex in
      let none : begins x ≡ false = rw (ne_eqb x 61 digit.no_equals, digit.no_blank) refl in
      absurd (true≢false (sym begin ∙ none))
]

-- what is kept doesn't begin with a digit
closed_before : (held after : List ℕ) → is_held held ≡ true → held ≢ [] → opens (held ++ after) ≡ false
closed_before [] after is some = absurd (some refl)
closed_before (x ∷ held) after is some = opens_other x (held ++ after) (begins_no_hex x (and_both (begins x) (all_follow x held) is).0)

closed_after : (a : ℕ) (held after : List ℕ) → is_held held ≡ true → is_held (61 ∷ a ∷ held) ≡ false → opens (a ∷ (held ++ after)) ≡ false
closed_after a [] after is cut = opens_other a after (elim (cases_Bool (is_hex a)) [
  | inr other ↦ other
  | inl hex ↦
      let whole : is_held (61 ∷ a ∷ []) ≡ true = rw hex refl in
      absurd (true≢false (sym whole ∙ cut))
])
closed_after a (x ∷ held) after is cut = and_right (is_hex a) (is_hex x) (begins_no_hex x (and_both (begins x) (all_follow x held) is).0)

unescaped-two : (a b : ℕ) (rest : List ℕ) → (is_hex a && is_hex b) ≡ true → unescaped (61 ∷ a ∷ b ∷ rest) ≡ (16 * digit_value a + digit_value b) ∷ unescaped rest
unescaped-two a b rest both = rw both refl

past_escape : (a b n : ℕ) (rest after : List ℕ) → (is_hex a && is_hex b) ≡ true → Past n rest after → Past (suc (suc (suc n))) (61 ∷ a ∷ b ∷ rest) after
past_escape a b n rest after both past =
    let (high, low) = and_both (is_hex a) (is_hex b) both in
    decoded-escape a b (rest ++ after) high low
    ∙ ap (λ l. (16 * digit_value a + digit_value b) ∷ l) past
    ∙ ap (λ l. l ++ decoding_of (drop n rest ++ after)) (sym (unescaped-two a b (take n rest) both))

-- what comes before the longest end that may be kept stands for the same whatever follows
past_all : (n : ℕ) (line after : List ℕ) → HasNoFeed line → n ≤ length line → is_held (drop n line) ≡ true → ((k : ℕ) → k < n → is_held (drop k line) ≡ false) → Past n line after
past_all zero line after feed within is longest = refl
past_all (suc n) [] after feed within is longest = absurd (omega arith)
past_all (suc zero) (x ∷ rest) after feed within is longest =
    let cut : is_held (x ∷ rest) ≡ false = longest 0 (omega arith) in
    past_one x zero rest after (λ k lt. feed (suc k) (omega arith)) cut
    (λ same. closed_before rest after is (λ none.
    let whole : is_held (x ∷ rest) ≡ true = ap (λ l. is_held (x ∷ l)) none ∙ ap (λ m. is_held (m ∷ [])) same in
    true≢false (sym whole ∙ cut))) refl
past_all (suc (suc zero)) (x ∷ []) after feed within is longest = absurd (omega arith)
past_all (suc (suc zero)) (x ∷ a ∷ rest) after feed within is longest =
    let cut : is_held (x ∷ a ∷ rest) ≡ false = longest 0 (omega arith) in
    past_one x (suc zero) (a ∷ rest) after (λ k lt. feed (suc k) (omega arith)) cut
    (λ same. closed_after a rest after is (ap (λ m. is_held (m ∷ a ∷ rest)) (sym same) ∙ cut))
    (past_all (suc zero) (a ∷ rest) after (λ k lt. feed (suc k) (omega arith)) (omega arith) is (λ k lt. longest (suc k) (omega arith)))
past_all (suc (suc (suc n))) (x ∷ []) after feed within is longest = absurd (omega arith)
past_all (suc (suc (suc n))) (x ∷ a ∷ []) after feed within is longest = absurd (omega arith)
past_all (suc (suc (suc n))) (x ∷ a ∷ b ∷ rest) after feed within is longest = elim (cases_Bool (is_escape x a b)) [
  | inl escape ↦
      let (equals, both) = and_both (x == 61) (is_hex a && is_hex b) escape in
      subst (λ m. Past (suc (suc (suc n))) (m ∷ a ∷ b ∷ rest) after) (sym (eqb-true x 61 equals))
      (past_escape a b n rest after both
      (past_all n rest after (λ k lt. feed (suc (suc (suc k))) (omega arith)) (omega arith) is (λ k lt. longest (suc (suc (suc k))) (omega arith))))
  | inr none ↦
      past_one x (suc (suc n)) (a ∷ b ∷ rest) after (λ k lt. feed (suc k) (omega arith)) (longest 0 (omega arith))
      (λ same. ap (λ m. is_escape m a b) (sym same) ∙ none)
      (past_all (suc (suc n)) (a ∷ b ∷ rest) after (λ k lt. feed (suc k) (omega arith)) (omega arith) is (λ k lt. longest (suc k) (omega arith)))
]

-- ---- the same, as what the code answers

pub reads_open : (was now text lines line left : List ℕ) (n : ℕ) → ((after : List ℕ) → decoding_of (text ++ after) ≡ decoding_of lines ++ decoding_of (line ++ after))
    → HasNoFeed line → IsPendingFrom line n → left ≡ drop n line → now ≡ (was ++ decoding_of lines) ++ unescaped (take n line) → Reads was text now left
reads_open was now text lines line left n stands feed pending back e = λ after.
    ap (λ l. l ++ decoding_of (left ++ after)) e
    ∙ append_assoc (was ++ decoding_of lines) (unescaped (take n line)) (decoding_of (left ++ after))
    ∙ ap (λ l. (was ++ decoding_of lines) ++ (unescaped (take n line) ++ decoding_of (l ++ after))) back
    ∙ ap (λ l. (was ++ decoding_of lines) ++ l) (sym (past_all n line after feed pending.within pending.held pending.longest))
    ∙ append_assoc was (decoding_of lines) (decoding_of (line ++ after))
    ∙ ap (λ l. was ++ l) (sym (stands after))

-- the end of a text
pub reads_whole : (was now last text left : List ℕ) → was ≡ [] → Reads was text now left → last ≡ now ++ decoding_of left → last ≡ decoding_of text
reads_whole was now last text left none reads ends =
    ends
    ∙ ap (λ l. now ++ decoding_of l) (sym (append-nil left))
    ∙ reads []
    ∙ ap (λ l. was ++ decoding_of l) (append-nil text)
    ∙ ap (λ l. l ++ decoding_of text) none
