-- Lists that have each element once, as they grow.
use Rattle.std.proofs.Common.{◌≡◌, ℕ, suc, ◌≤◌, Bool, true, false, cond, not, ◌||◌, List, [], ◌∷◌, ◌++◌, length, filter, All, Option, Some, None, is_some, unwrap_or, option_map, slice_get, if◌then◌else◌, refl, sym, ap, ◌∙◌, inl, inr, arith}
use Rattle.std.specs.Cmp.{IsEquivalence}
use Rattle.std.proofs.lemmas.Bool.{cases_Bool}
use Rattle.std.proofs.lemmas.List.{append-nil, append_assoc}
use Rattle.std.proofs.lemmas.List.Elements.{filter-append, All-cons, All-head, All-tail, All-filter}
use Rattle.std.proofs.lemmas.List.Folds.{list_any-append}
use Rattle.std.proofs.lemmas.List.Sums.{length-filter, count_by-le-length}
use Rattle.std.proofs.lemmas.Map.Views.{any-filter_same}
use Rattle.octets.specs.Once.{each_once, is_listed, with_one, with_more, place_in, found_in}

-- ---- whatever the test

module _ {A : Type 0} (same : A → A → Bool) where
  -- a list that has the element, and one that hasn't
  pub listed_kept : (listed : List A) (x : A) → is_listed same x listed ≡ true → listed ≡ with_one same listed x
  listed_kept listed x here = sym (rw here refl)

  pub unlisted_added : (listed : List A) (x : A) → is_listed same x listed ≡ false → listed ++ x ∷ [] ≡ with_one same listed x
  unlisted_added listed x fresh = sym (rw fresh refl)

  -- more elements after others
  pub more_after : (listed xs ys : List A) → with_more same listed (xs ++ ys) ≡ with_more same (with_more same listed xs) ys
  more_after listed [] ys = refl
  more_after listed (x ∷ xs) ys = more_after (with_one same listed x) xs ys

  -- where an element is found, and whether it is listed
  pub found_listed : (listed : List A) (x : A) → is_some (found_in same listed x) ≡ is_listed same x listed
  found_listed [] x = refl
  found_listed (y ∷ ys) x = step (same x y) (found_in same ys x) (is_listed same x ys) (found_listed ys x)
    where
      step : (b : Bool) (o : Option ℕ) (d : Bool) → is_some o ≡ d → is_some (if b then Some 0 else option_map suc o) ≡ (b || d)
      step true o d e = refl
      step false None d e = e
      step false (Some n) d e = e

  -- an element's place is where it is found, else the list's end
  found_place : (listed : List A) (x : A) → unwrap_or (found_in same listed x) (length listed) ≡ place_in same listed x
  found_place [] x = refl
  found_place (y ∷ ys) x = step (same x y) (found_in same ys x) (length ys) (place_in same ys x) (found_place ys x)
    where
      step : (b : Bool) (o : Option ℕ) (len place : ℕ) → unwrap_or o len ≡ place → unwrap_or (if b then Some 0 else option_map suc o) (suc len) ≡ (if b then 0 else suc place)
      step true o len place e = refl
      step false None len place e = ap suc e
      step false (Some n) len place e = ap suc e

  pub found_at : (listed : List A) (x : A) (found : Option ℕ) (len : ℕ) → found ≡ found_in same listed x → len ≡ length listed → unwrap_or found len ≡ place_in same listed x
  found_at listed x found len e f = rw (e, f) (found_place listed x)

  pub place_within : (listed : List A) (x : A) → place_in same listed x ≤ length listed
  place_within [] x = omega arith
  place_within (y ∷ ys) x = step (same x y) (place_in same ys x) (length ys) (place_within ys x)
    where
      step : (b : Bool) (place len : ℕ) → place ≤ len → (if b then 0 else suc place) ≤ suc len
      step true place len h = omega arith
      step false place len h = omega arith

  -- where the same is equal, it stands at its place
  pub found : ((x y : A) → same x y ≡ true → x ≡ y) → (listed : List A) (x : A) → is_listed same x listed ≡ true → slice_get listed (place_in same listed x) ≡ Some x
  found equals [] x h = absurd (cc)
  found equals (y ∷ ys) x h =
      elim (cases_Bool (same x y)) [
        | inl here ↦ let is : y ≡ x = sym (equals x y here) in rw here (ap (λ z. Some z) is)
        | inr other ↦ rw other (found equals ys x (rw other at h))
      ]

  -- each once, they are no more
  pub each_once_within : (xs : List A) → length (each_once same xs) ≤ length xs
  each_once_within [] = omega arith
  each_once_within (x ∷ xs) =
      let p : A → Bool = λ y. not (same x y) in
      let others : length (filter p (each_once same xs)) ≤ length (each_once same xs) = omega (arith, length-filter p (each_once same xs), count_by-le-length p (each_once same xs)) in
      omega (arith, others, each_once_within xs)

  -- what holds of each holds of each once
  pub each_once_all : (P : A → Type 0) (xs : List A) → All P xs → All P (each_once same xs)
  each_once_all P [] all = all
  each_once_all P (x ∷ xs) all =
      All-cons P x (filter (λ y. not (same x y)) (each_once same xs)) (All-head P x xs all) (All-filter (λ y. not (same x y)) P (each_once same xs) (each_once_all P xs (All-tail P x xs all)))

-- ---- where the test is an equivalence

module _ {A : Type 0} (same : A → A → Bool) (equal : IsEquivalence same) where
  -- one that is the same as one of two different ones isn't the same as the other
  apart : (x y z : A) → same x z ≡ false → same z y ≡ true → not (same x y) ≡ true
  apart x y z differs e =
      let moved : same z x ≡ same y x = equal.congr z y x e in
      let other : same x y ≡ false = equal.symm x y ∙ sym moved ∙ equal.symm z x ∙ differs in
      rw other refl

  -- without those that are the same as x, a list still has those that differ from x
  listed_others : (x z : A) (listed : List A) → same x z ≡ false → is_listed same z (filter (λ y. not (same x y)) listed) ≡ is_listed same z listed
  listed_others x z listed differs = any-filter_same (same z) (λ y. not (same x y)) true (λ y e. apart x y z differs e) listed

  -- after a first element x: b says whether x is the same as the new one, d whether the same as the new one is listed
  push_step : (x new : A) (listed : List A) (b d : Bool) → same new x ≡ b → is_listed same new listed ≡ d
      → x ∷ filter (λ y. not (same x y)) (cond d listed (listed ++ new ∷ [])) ≡ with_one same (x ∷ filter (λ y. not (same x y)) listed) new
  push_step x new listed true true e f = sym (rw e refl)
  push_step x new listed false true e f =
      let differs : same x new ≡ false = equal.symm x new ∙ e in
      let still : is_listed same new (filter (λ y. not (same x y)) listed) ≡ true = listed_others x new listed differs ∙ f in
      sym (rw (e, still) refl)
  push_step x new listed true false e f =
      let turned : same x new ≡ true = equal.symm x new ∙ e in
      let dropped : filter (λ y. not (same x y)) (listed ++ new ∷ []) ≡ filter (λ y. not (same x y)) listed =
      filter-append (λ y. not (same x y)) listed (new ∷ []) ∙ rw turned (append-nil (filter (λ y. not (same x y)) listed)) in
      ap (λ (l : List A). x ∷ l) dropped ∙ sym (rw e refl)
  push_step x new listed false false e f =
      let differs : same x new ≡ false = equal.symm x new ∙ e in
      let still : is_listed same new (filter (λ y. not (same x y)) listed) ≡ false = listed_others x new listed differs ∙ f in
      let kept : filter (λ y. not (same x y)) (listed ++ new ∷ []) ≡ filter (λ y. not (same x y)) listed ++ new ∷ [] =
      filter-append (λ y. not (same x y)) listed (new ∷ []) ∙ rw differs refl in
      ap (λ (l : List A). x ∷ l) kept ∙ sym (rw (e, still) refl)

  -- one more at the end
  pub each_once_push : (xs : List A) (new : A) → each_once same (xs ++ new ∷ []) ≡ with_one same (each_once same xs) new
  each_once_push [] new = refl
  each_once_push (x ∷ xs) new =
      ap (λ (l : List A). x ∷ filter (λ y. not (same x y)) l) (each_once_push xs new)
      ∙ push_step x new (each_once same xs) (same new x) (is_listed same new (each_once same xs)) refl refl

  -- more at the end
  pub each_once_append : (xs ys : List A) → each_once same (xs ++ ys) ≡ with_more same (each_once same xs) ys
  each_once_append xs [] = ap (λ l. each_once same l) (append-nil xs)
  each_once_append xs (y ∷ ys) =
      ap (λ l. each_once same l) (sym (append_assoc xs (y ∷ []) ys))
      ∙ each_once_append (xs ++ y ∷ []) ys
      ∙ ap (λ l. with_more same l ys) (each_once_push xs y)

  -- added one by one to nothing, they are each once
  pub all_added : (xs : List A) → with_more same [] xs ≡ each_once same xs
  all_added xs = sym (each_once_append [] xs)

  -- each once, they have what they had
  pub each_once_lists : (xs : List A) (z : A) → is_listed same z (each_once same xs) ≡ is_listed same z xs
  each_once_lists [] z = refl
  each_once_lists (x ∷ xs) z =
      elim (cases_Bool (same z x)) [
        | inl here ↦ rw here refl
        | inr other ↦ rw other (listed_others x z (each_once same xs) (equal.symm x z ∙ other) ∙ each_once_lists xs z)
      ]

  -- what is listed with one more
  pub listed_push : (new asked : A) (listed : List A) (tie was : Bool) → tie ≡ same new asked → was ≡ is_listed same asked listed → cond tie true was ≡ is_listed same asked (listed ++ new ∷ [])
  listed_push new asked listed tie was e f =
      rw (e, f, equal.symm new asked, list_any-append (same asked) listed (new ∷ [])) (either (same asked new) (is_listed same asked listed))
    where
      either : (a b : Bool) → cond a true b ≡ (b || (a || false))
      either true true = refl
      either true false = refl
      either false true = refl
      either false false = refl

  -- where an element is found with one more, which wasn't listed
  both : (x y z : A) → same z x ≡ true → same z y ≡ true → same y x ≡ true
  both x y z e f = sym (equal.congr z y x f) ∙ e

  found_push : (listed : List A) (new asked : A) → is_listed same new listed ≡ false → found_in same (listed ++ new ∷ []) asked ≡ cond (same asked new) (Some (length listed)) (found_in same listed asked)
  found_push [] new asked fresh = refl
  found_push (x ∷ xs) new asked fresh =
      step (same new x) (same asked x) (same asked new) (is_listed same new xs) (found_in same xs asked) _ (length xs) fresh (both x new asked) (λ h. found_push xs new asked h)
    where
      step : (b c d listed : Bool) (o p : Option ℕ) (len : ℕ) → (b || listed) ≡ false → (c ≡ true → d ≡ true → b ≡ true) → (listed ≡ false → p ≡ cond d (Some len) o) → (if c then Some 0 else option_map suc p) ≡ cond d (Some (suc len)) (if c then Some 0 else option_map suc o)
      step true c d listed o p len fresh_here meet pushed = cc
      step false true true listed o p len fresh_here meet pushed = let h : false ≡ true = meet refl refl in cc
      step false true false listed o p len fresh_here meet pushed = refl
      step false false true listed o p len fresh_here meet pushed = ap (λ n. option_map suc n) (pushed fresh_here)
      step false false false listed o p len fresh_here meet pushed = ap (λ n. option_map suc n) (pushed fresh_here)

  pub found_insert : (listed : List A) (new asked : A) (tie : Bool) (was : Option ℕ) → is_listed same new listed ≡ false → tie ≡ same new asked → was ≡ found_in same listed asked → cond tie (Some (length listed)) was ≡ found_in same (listed ++ new ∷ []) asked
  found_insert listed new asked tie was fresh e f = rw (e, f, equal.symm new asked) (sym (found_push listed new asked fresh))
