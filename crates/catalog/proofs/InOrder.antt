-- The values of a map in the order of its keys, which are the places of a list.
use Rattle.std.proofs.Common.{◌≡◌, ◌<◌, ◌≤◌, ◌+◌, ◌-◌, ℕ, suc, List, [], ◌∷◌, true, false, Option, Some, None, Less, filter_map, refl, sym, ap, ◌∙◌, arith, subst, ⊎_elim}
use Rattle.std.specs.BTreeMap.{BTreeMap, get, is_at, IsOrdered, values}
use Rattle.std.specs.List.{AllByRecursion, cons_option, slice_get}
use Rattle.std.specs.List.Sorted.{IsStrictlySortedBy}
use Rattle.std.specs.Map.{keys_of, lookup, values_of}
use Rattle.std.specs.Option.{option_and_then}
use Rattle.std.specs.Ordering.{nat_cmp}
use Rattle.std.proofs.lemmas.Bool.{cases_eq}
use Rattle.std.proofs.lemmas.Bool.Decides.{nat_tests}
use Rattle.std.proofs.lemmas.Map.Entries.{lookup_head, lookup_tail}
use Rattle.std.proofs.lemmas.Option.{none-some, same_Some}

here_found : (q : ℕ) → is_at (nat_cmp q) q ≡ true
here_found q = grind (arith, nat_tests)

apart : (q k : ℕ) → (q ≡ k → ⊥) → is_at (nat_cmp q) k ≡ false
apart q k other = grind (arith, nat_tests)

less_than : (q k : ℕ) → nat_cmp q k ≡ Less → q < k
less_than q k is = grind (arith, nat_tests)

lower : (m n : ℕ) → m < n + 1 → (m ≡ n → ⊥) → m < n
lower m n lt other = grind arith

not_below : (m n : ℕ) → (m < n → ⊥) → n ≤ m
not_below m n p = grind arith

not_apart : (m n : ℕ) → (m < n → ⊥) → (n < m → ⊥) → m ≡ n
not_apart m n p q = grind arith

module _ {B : Type 0} where
  -- no key is found that isn't above all of them
  none_above : (k q : ℕ) (es : List (ℕ × B)) → q ≤ k → AllByRecursion (λ y. nat_cmp k y ≡ Less) (keys_of es) → lookup (is_at (nat_cmp q)) es ≡ None
  none_above k q [] le above = refl
  none_above k q (e ∷ es) le above =
      lookup_tail (is_at (nat_cmp q)) e es (apart q e.0 (λ same. omega (arith, le, same, less_than k e.0 above.0)))
      ∙ none_above k q es le above.1

  abbrev NoneBelow : ℕ → List (ℕ × B) → Type 0
  NoneBelow at es = (q : ℕ) → q < at → lookup (is_at (nat_cmp q)) es ≡ None

  below_more : (at : ℕ) (es : List (ℕ × B)) → NoneBelow at es → lookup (is_at (nat_cmp at)) es ≡ None → NoneBelow (at + 1) es
  below_more at es below none q lt =
      ⊎_elim (λ same. subst (λ k. lookup (is_at (nat_cmp k)) es ≡ None) (sym same) none) (λ other. below q (lower q at lt other)) (cases_eq q at)

module _ {A B : Type 0} (f : A → Option B) where
  abbrev HasFrom : ℕ → List (ℕ × B) → List A → Type 0
  HasFrom at es xs = (q j : ℕ) → q ≡ at + j → lookup (is_at (nat_cmp q)) es ≡ option_and_then f (slice_get xs j)

  first_is : (at : ℕ) (e : ℕ × B) (es : List (ℕ × B)) (b : B) → IsStrictlySortedBy nat_cmp (keys_of (e ∷ es)) → NoneBelow at (e ∷ es)
      → lookup (is_at (nat_cmp at)) (e ∷ es) ≡ Some b → e.0 ≡ at
  unfolding IsStrictlySortedBy
  first_is at e es b up below found =
      not_apart e.0 at
      (λ lt. none-some e.1 (sym (below e.0 lt) ∙ lookup_head (is_at (nat_cmp e.0)) e es (here_found e.0)))
      (λ lt. none-some b (sym (lookup_tail (is_at (nat_cmp at)) e es (apart at e.0 (λ same. omega (arith, lt, same))) ∙ none_above e.0 at es (omega (arith, lt)) up.0) ∙ found))

  -- from the place of an element on, if it is so from the next place on
  step : (x : A) (xs : List A) (at : ℕ) (es : List (ℕ × B)) (o : Option B) → f x ≡ o
      → ((es : List (ℕ × B)) → IsStrictlySortedBy nat_cmp (keys_of es) → NoneBelow (at + 1) es → HasFrom (at + 1) es xs → values_of es ≡ filter_map f xs)
      → IsStrictlySortedBy nat_cmp (keys_of es) → NoneBelow at es → HasFrom at es (x ∷ xs)
      → values_of es ≡ filter_map f (x ∷ xs)
  unfolding IsStrictlySortedBy
  step x xs at es None is later up below has =
      later es up (λ q lt. below_more at es below (has at 0 (omega arith) ∙ is) q lt) (λ q j e. has q (suc j) (omega (arith, e)))
      ∙ sym (ap (λ o. cons_option o (filter_map f xs)) is)
  step x xs at [] (Some b) is later up below has = absurd (none-some b (has at 0 (omega arith) ∙ is))
  step x xs at (e ∷ es) (Some b) is later up below has =
      let found : lookup (is_at (nat_cmp at)) (e ∷ es) ≡ Some b = has at 0 (omega arith) ∙ is in
      let first : e.0 ≡ at = first_is at e es b up below found in
      let hit : is_at (nat_cmp at) e.0 ≡ true = subst (λ k. is_at (nat_cmp at) k ≡ true) (sym first) (here_found at) in
      let value : e.1 ≡ b = same_Some e.1 b (sym (lookup_head (is_at (nat_cmp at)) e es hit) ∙ found) in
      let rest : values_of es ≡ filter_map f xs =
      later es up.1
      (λ q lt. none_above e.0 q es (omega (arith, lt, first)) up.0)
      (λ q j n. sym (lookup_tail (is_at (nat_cmp q)) e es (apart q e.0 (λ same. omega (arith, n, same, first)))) ∙ has q (suc j) (omega (arith, n))) in
      ap (λ v. v ∷ values_of es) value ∙ ap (λ l. b ∷ l) rest ∙ sym (ap (λ o. cons_option o (filter_map f xs)) is)

  in_order : (xs : List A) (at : ℕ) (es : List (ℕ × B)) → IsStrictlySortedBy nat_cmp (keys_of es) → NoneBelow at es → HasFrom at es xs
      → values_of es ≡ filter_map f xs
  in_order [] at [] up below has = refl
  in_order [] at (e ∷ es) up below has =
      let found = lookup_head (is_at (nat_cmp e.0)) e es (here_found e.0) in
      let le : at ≤ e.0 = not_below e.0 at (λ lt. none-some e.1 (sym (below e.0 lt) ∙ found)) in
      absurd (none-some e.1 (sym (has e.0 (e.0 - at) (omega (arith, le))) ∙ found))
  in_order (x ∷ xs) at es up below has = step x xs at es (f x) refl (in_order xs (at + 1)) up below has

  pub values_in_order : (xs : List A) (places : BTreeMap ℕ B) → IsOrdered nat_cmp places
      → ((q : ℕ) → get nat_cmp places q ≡ option_and_then f (slice_get xs q)) → values places ≡ filter_map f xs
  values_in_order xs places up has =
      in_order xs 0 places.entries up (λ q lt. absurd (omega (arith, lt)))
      (λ q j e. has q ∙ ap (λ k. option_and_then f (slice_get xs k)) (omega (arith, e)))
