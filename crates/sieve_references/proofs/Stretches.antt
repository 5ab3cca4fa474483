-- The stretch before the first reference.
use Rattle.std.proofs.Common.{◌≡◌, ◌≢◌, subst, ℕ, zero, suc, ◌+◌, ◌-◌, ◌<◌, ◌≤◌, ◌==◌, ◌&&◌, Bool, true, false, List, [], ◌∷◌, ◌++◌, length, take, drop, Option, Some, None, is_some, All, option_map, if◌then◌else◌, refl, sym, ap, ◌∙◌, inl, inr, arith}
use Rattle.std.specs.Prelude.{nat_le, MatchOption}
use Rattle.std.specs.List.{list_all}
use Rattle.std.specs.Option.{option_and_then}
use Rattle.std.proofs.lemmas.Bool.{cases_Bool, cases_eq, ne_eqb, eqb-true, leb-true}
use Rattle.std.proofs.lemmas.List.{length-drop}
use Rattle.std.proofs.lemmas.List.Elements.{All-cons, All-tail}
use Rattle.sieve_references.specs.References.{Segment, stretch, variable, capture, beyond, foreign, is_identifier, is_number, value_after, last_capture, capture_of, words, before_brace, reference_of, Reference, with_rest, reference_at, with_one, segments_after, segments}
use Rattle.sieve_references.specs.WellFormed.{IsWellFormed}
use Rattle.sieve_references.specs.Reading.{is_not_dollar, is_element, Found, found_at, reference_behind, octets_before}
use Rattle.sieve_references.proofs.Words.{found_with}

-- ---- the reference whose `$` stands before a text

-- as the definition has it, with what is left as a text
abbrev left_after : List ℕ → Reference → Found
left_after after found = found_with (drop found.rest after) found.segment

behind : (after : List ℕ) → option_map (left_after after) (reference_at (36 ∷ after)) ≡ reference_behind after
behind [] = refl
behind (y ∷ rest) =
    elim (cases_Bool (y == 123)) [
      | inl brace ↦ rw brace (inside_of (before_brace rest))
      | inr other ↦ rw other refl
    ]
  where
    left : (inside : List ℕ) (o : Option Segment) → option_map (left_after (y ∷ rest)) (option_map (with_rest (length inside + 2)) o) ≡ option_map (found_with (drop (suc (length inside)) rest)) o
    left inside None = refl
    left inside (Some segment) = let e : length inside + 2 ≡ suc (suc (length inside)) = omega arith in rw e refl

    inside_of : (o : Option (List ℕ)) →
        option_map (left_after (y ∷ rest)) (option_and_then (λ inside. option_map (with_rest (length inside + 2)) (reference_of (words inside))) o)
        ≡ option_and_then (λ inside. option_map (found_with (drop (suc (length inside)) rest)) (reference_of (words inside))) o
    inside_of None = refl
    inside_of (Some inside) = left inside (reference_of (words inside))

-- a reference that is found, with what is left after it
record IsFound (after : List ℕ) (segment : Segment) (rest : List ℕ) : Type 0 where
  pub found : Reference
  pub at : reference_at (36 ∷ after) ≡ Some found
  pub is : found.segment ≡ segment
  pub left : drop found.rest after ≡ rest

behind_some : (after : List ℕ) (segment : Segment) (rest : List ℕ) → reference_behind after ≡ Some (found_with rest segment) → IsFound after segment rest
behind_some after segment rest e = some (reference_at (36 ∷ after)) refl (behind after ∙ e)
  where
    some : (o : Option Reference) → reference_at (36 ∷ after) ≡ o → option_map (left_after after) o ≡ Some (found_with rest segment) → IsFound after segment rest
    some None at e = absurd (cc)
    some (Some found) at e =
        let same : left_after after found ≡ found_with rest segment = cc in
        record { found = found; at = at; is = ap (λ f. f.segment) same; left = ap (λ f. f.rest) same }

-- another octet begins none
none_at : (x : ℕ) (xs : List ℕ) → x ≢ 36 → reference_at (x ∷ xs) ≡ None
none_at x [] other = refl
none_at x (y ∷ ys) other = rw (ne_eqb x 36 other) refl

-- ---- segments

skipped : (n : ℕ) (xs : List ℕ) → segments_after n xs ≡ segments (drop n xs)
skipped zero xs = refl
skipped (suc n) [] = refl
skipped (suc n) (x ∷ xs) = skipped n xs

at_reference : (x : ℕ) (xs : List ℕ) (found : Reference) → reference_at (x ∷ xs) ≡ Some found → segments (x ∷ xs) ≡ found.segment ∷ segments (drop found.rest xs)
at_reference x xs found e = rw (e, skipped found.rest xs) refl

at_octet : (x : ℕ) (xs : List ℕ) → reference_at (x ∷ xs) ≡ None → segments (x ∷ xs) ≡ with_one x (segments xs)
at_octet x xs e = rw e refl

segments_behind : (after rest : List ℕ) (segment : Segment) → reference_behind after ≡ Some (found_with rest segment) → segments (36 ∷ after) ≡ segment ∷ segments rest
segments_behind after rest segment e =
    let f = behind_some after segment rest e in
    at_reference 36 after f.found f.at ∙ rw (f.is, f.left) refl

-- ---- how many octets stand before the first reference

differs : (x : ℕ) → is_not_dollar x ≡ true → x ≢ 36
differs x other e = let same : is_not_dollar x ≡ false = ap is_not_dollar e in absurd (cc)

pub none_before : (text : List ℕ) → list_all is_not_dollar text ≡ true → octets_before text ≡ length text
none_before [] all = refl
none_before (x ∷ xs) all =
    elim (cases_Bool (is_not_dollar x)) [
      | inl other ↦
          let rest : list_all is_not_dollar xs ≡ true = rw other at all in
          let none : reference_at (x ∷ xs) ≡ None = none_at x xs (differs x other) in
          rw none (ap suc (none_before xs rest))
      | inr dollar ↦ absurd (let e = rw dollar at all in cc)
    ]

-- octets that aren't `$`, before others
pub more_before : (plain rest : List ℕ) → list_all is_not_dollar plain ≡ true → octets_before (plain ++ rest) ≡ length plain + octets_before rest
more_before [] rest all = omega arith
more_before (x ∷ xs) rest all =
    elim (cases_Bool (is_not_dollar x)) [
      | inl other ↦
          let others : list_all is_not_dollar xs ≡ true = rw other at all in
          let none : reference_at (x ∷ (xs ++ rest)) ≡ None = none_at x (xs ++ rest) (differs x other) in
          let more : octets_before (xs ++ rest) ≡ length xs + octets_before rest = more_before xs rest others in
          let step : octets_before (x ∷ (xs ++ rest)) ≡ suc (octets_before (xs ++ rest)) = rw none refl in
          omega (arith, step, more)
      | inr dollar ↦ absurd (let e = rw dollar at all in cc)
    ]

is_behind : (after : List ℕ) → is_some (reference_at (36 ∷ after)) ≡ is_some (reference_behind after)
is_behind after = kept (reference_at (36 ∷ after)) ∙ ap is_some (behind after)
  where
    kept : (o : Option Reference) → is_some o ≡ is_some (option_map (left_after after) o)
    kept None = refl
    kept (Some found) = refl

pub dollar_before : (after : List ℕ) (b : Bool) → is_some (reference_behind after) ≡ b → octets_before (36 ∷ after) ≡ (if b then 0 else suc (octets_before after))
dollar_before after b e = rw (is_behind after ∙ e) refl

other_before : (x : ℕ) (xs : List ℕ) → x ≢ 36 → octets_before (x ∷ xs) ≡ suc (octets_before xs)
other_before x xs other = rw (none_at x xs other) refl

pub before_within : (text : List ℕ) → octets_before text ≤ length text
before_within [] = omega arith
before_within (x ∷ xs) = within (is_some (reference_at (x ∷ xs))) (octets_before xs) (length xs) (before_within xs)
  where
    within : (b : Bool) (n len : ℕ) → n ≤ len → (if b then 0 else suc n) ≤ suc len
    within true n len h = omega arith
    within false n len h = omega arith

-- ---- the stretch

-- a reference isn't a stretch, and is well-formed
abbrev pub IsReference : Segment → Type 0
IsReference (stretch octets) = ⊥
IsReference (variable name) = is_identifier name ≡ true
IsReference (capture n) = n ≤ last_capture
IsReference beyond = Unit {0}
IsReference foreign = Unit {0}

captured : (n : ℕ) → IsReference (capture_of n)
captured n = elim (cases_Bool (nat_le n 9)) [ inl small ↦ rw small (leb-true n 9 small) | inr large ↦ rw large tt ]

refers : (found : List (List ℕ)) (segment : Segment) → reference_of found ≡ Some segment → IsReference segment
refers [] segment e = absurd (cc)
refers (word ∷ []) segment e =
    elim (cases_Bool (is_identifier word)) [
      | inl name ↦ let is : Some (variable word) ≡ Some segment = sym (rw name refl) ∙ e in let same : variable word ≡ segment = cc in subst IsReference same name
      | inr other ↦
          elim (cases_Bool (is_number word)) [
            | inl number ↦
                let is : Some (capture_of (value_after 0 word)) ≡ Some segment = sym (rw (other, number) refl) ∙ e in
                let same : capture_of (value_after 0 word) ≡ segment = cc in
                subst IsReference same (captured (value_after 0 word))
            | inr neither ↦ let is : None ≡ Some segment = sym (rw (other, neither) refl) ∙ e in absurd (cc)
          ]
    ]
refers (word ∷ another ∷ others) segment e = either (is_identifier word && list_all is_element (another ∷ others)) e
  where
    either : (b : Bool) → (if b then Some foreign else None) ≡ Some segment → IsReference segment
    either true e = let same : foreign ≡ segment = cc in subst IsReference same tt
    either false e = absurd (cc)

pub found_refers : (x : ℕ) (xs : List ℕ) (found : Reference) → reference_at (x ∷ xs) ≡ Some found → IsReference found.segment
found_refers x [] found e = absurd (cc)
found_refers x (y ∷ rest) found e = begun ((x == 36) && (y == 123)) e
  where
    named : (inside : List ℕ) (o : Option Segment) → reference_of (words inside) ≡ o → option_map (with_rest (length inside + 2)) o ≡ Some found → IsReference found.segment
    named inside None at e = absurd (cc)
    named inside (Some segment) at e =
        let same : with_rest (length inside + 2) segment ≡ found = cc in
        subst IsReference (ap (λ f. f.segment) same) (refers (words inside) segment at)

    closed : (o : Option (List ℕ)) → option_and_then (λ inside. option_map (with_rest (length inside + 2)) (reference_of (words inside))) o ≡ Some found → IsReference found.segment
    closed None e = absurd (cc)
    closed (Some inside) e = named inside (reference_of (words inside)) refl e

    begun : (b : Bool) → (if b then option_and_then (λ inside. option_map (with_rest (length inside + 2)) (reference_of (words inside))) (before_brace rest) else None) ≡ Some found → IsReference found.segment
    begun true e = closed (before_brace rest) e
    begun false e = absurd (cc)

-- an octet before a reference is a stretch of its own
alone : (x : ℕ) (segment : Segment) (others : List Segment) → IsReference segment → with_one x (segment ∷ others) ≡ stretch (x ∷ []) ∷ segment ∷ others
alone x (stretch octets) others refers = absurd refers
alone x (variable name) others refers = refl
alone x (capture n) others refers = refl
alone x beyond others refers = refl
alone x foreign others refers = refl

nothing_before : (x : ℕ) (xs : List ℕ) → octets_before xs ≡ 0 → with_one x (segments xs) ≡ stretch (x ∷ []) ∷ segments xs
nothing_before x [] e = refl
nothing_before x (y ∷ ys) e = step (reference_at (y ∷ ys)) refl
  where
    step : (o : Option Reference) → reference_at (y ∷ ys) ≡ o → with_one x (segments (y ∷ ys)) ≡ stretch (x ∷ []) ∷ segments (y ∷ ys)
    step None at = let some : octets_before (y ∷ ys) ≡ suc (octets_before ys) = rw at refl in absurd (omega (arith, some, e))
    step (Some found) at = rw (at_reference y ys found at) (alone x found.segment (segments (drop found.rest ys)) (found_refers y ys found at))

-- what stands before the first reference is the first segment
pub segments_stretch : (text : List ℕ) (n : ℕ) → n ≡ octets_before text → 0 < n → segments text ≡ stretch (take n text) ∷ segments (drop n text)
segments_stretch [] n is some = absurd (omega (arith, is))
segments_stretch (x ∷ xs) zero is some = absurd (omega arith)
segments_stretch (x ∷ xs) (suc n) is some = step (reference_at (x ∷ xs)) refl (λ more left. segments_stretch xs n left more)
  where
    step : (o : Option Reference) → reference_at (x ∷ xs) ≡ o → (0 < n → n ≡ octets_before xs → segments xs ≡ stretch (take n xs) ∷ segments (drop n xs))
        → segments (x ∷ xs) ≡ stretch (x ∷ take n xs) ∷ segments (drop n xs)
    step (Some found) at others = let none : octets_before (x ∷ xs) ≡ 0 = rw at refl in absurd (omega (arith, none, is))
    step None at others =
        let here : octets_before (x ∷ xs) ≡ suc (octets_before xs) = rw at refl in
        let left : n ≡ octets_before xs = omega (arith, here, is) in
        at_octet x xs at
        ∙ elim (cases_eq n 0) [
          | inl none ↦ rw none (nothing_before x xs (sym left ∙ none))
          | inr some ↦ ap (with_one x) (others (omega arith) left)
        ]

-- what is left after a reference is shorter than its text
left_within : (after rest : List ℕ) (segment : Segment) → reference_behind after ≡ Some (found_with rest segment) → length rest ≤ length after
left_within after rest segment e =
    let f = behind_some after segment rest e in
    omega (arith, ap length f.left, length-drop f.found.rest after)

-- what is left after so many octets is the text's end of that length
pub end_of : (n : ℕ) (text : List ℕ) → drop n text ≡ drop (length text - length (drop n text)) text
end_of zero text = let none : length text - length text ≡ 0 = omega arith in rw none refl
end_of (suc n) [] = refl
end_of (suc n) (x ∷ xs) =
    let within = length-drop n xs in
    let more : length (x ∷ xs) - length (drop n xs) ≡ suc (length xs - length (drop n xs)) = omega (arith, within) in
    rw more (end_of n xs)

end_behind : (after rest : List ℕ) (segment : Segment) → reference_behind after ≡ Some (found_with rest segment) → rest ≡ drop (length after - length rest) after
end_behind after rest segment e =
    let f = behind_some after segment rest e in
    subst (λ left. left ≡ drop (length after - length left) after) f.left (end_of f.found.rest after)

-- the reference that a text begins with is its first segment
pub segments_reference : (text rest : List ℕ) (segment : Segment) → found_at text ≡ Some (found_with rest segment)
    → (segments text ≡ segment ∷ segments rest) × (length rest < length text) × (rest ≡ drop (length text - length rest) text)
segments_reference [] rest segment e = absurd (cc)
segments_reference (x ∷ after) rest segment e =
    elim (cases_Bool (x == 36)) [
      | inl dollar ↦
          let here : reference_behind after ≡ Some (found_with rest segment) = rw dollar at e in
          let within = left_within after rest segment here in
          let more : length (x ∷ after) - length rest ≡ suc (length after - length rest) = omega (arith, within) in (
            ap (λ z. segments (z ∷ after)) (eqb-true x 36 dollar) ∙ segments_behind after rest segment here,
            omega (arith, within),
            end_behind after rest segment here ∙ ap (λ n. drop n (x ∷ after)) (sym more),
          )
      | inr other ↦ absurd (let none = rw other at e in cc)
    ]

-- where it begins with none, a stretch comes first
pub some_before : (text : List ℕ) → (length text == 0) ≡ false → found_at text ≡ None → 0 < octets_before text
some_before [] some e = absurd (cc)
some_before (x ∷ after) some e =
    elim (cases_eq x 36) [
      | inl dollar ↦
          let here : is_some (reference_behind after) ≡ false = ap is_some (rw dollar at e) in
          omega (arith, ap (λ z. octets_before (z ∷ after)) dollar, dollar_before after false here)
      | inr other ↦ omega (arith, other_before x after other)
    ]

-- a reader that gives a reference or none says whether there is one
pub says : {T : Type 0} (o : Option T) (f : T → Found) (found : Option Found) → MatchOption o (found ≡ None) (λ x. found ≡ Some (f x)) → is_some found ≡ is_some o
says None f found e = ap is_some e
says (Some x) f found e = ap is_some e

-- ---- what segments are

reference_formed : (segment : Segment) → IsReference segment → IsWellFormed segment
reference_formed (stretch octets) is = absurd is
reference_formed (variable name) is = is
reference_formed (capture n) is = is
reference_formed beyond is = tt
reference_formed foreign is = tt

octet_formed : (x : ℕ) (found : List Segment) → All IsWellFormed found → All IsWellFormed (with_one x found)
octet_formed x [] all = All-cons IsWellFormed (stretch (x ∷ [])) [] (omega arith) all
octet_formed x (stretch octets ∷ others) all = All-cons IsWellFormed (stretch (x ∷ octets)) others (omega arith) (All-tail IsWellFormed (stretch octets) others all)
octet_formed x (variable name ∷ others) all = All-cons IsWellFormed (stretch (x ∷ [])) (variable name ∷ others) (omega arith) all
octet_formed x (capture n ∷ others) all = All-cons IsWellFormed (stretch (x ∷ [])) (capture n ∷ others) (omega arith) all
octet_formed x (beyond ∷ others) all = All-cons IsWellFormed (stretch (x ∷ [])) (beyond ∷ others) (omega arith) all
octet_formed x (foreign ∷ others) all = All-cons IsWellFormed (stretch (x ∷ [])) (foreign ∷ others) (omega arith) all

after_formed : (n : ℕ) (text : List ℕ) → All IsWellFormed (segments_after n text)
after_formed n [] = λ k d lt. absurd (omega arith)
after_formed (suc n) (x ∷ xs) = after_formed n xs
after_formed zero (x ∷ xs) = step (reference_at (x ∷ xs)) refl (λ n. after_formed n xs)
  where
    step : (o : Option Reference) → reference_at (x ∷ xs) ≡ o → ((n : ℕ) → All IsWellFormed (segments_after n xs)) → All IsWellFormed (segments (x ∷ xs))
    step None at others = rw at (octet_formed x (segments xs) (others 0))
    step (Some found) at others =
        rw at (All-cons IsWellFormed found.segment (segments_after found.rest xs) (reference_formed found.segment (found_refers x xs found at)) (others found.rest))

pub all_formed : (text : List ℕ) → All IsWellFormed (segments text)
all_formed text = after_formed 0 text
