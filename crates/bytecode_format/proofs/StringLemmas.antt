-- Strings of a table that are listed again.
use Rattle.std.proofs.Common.{◌≡◌, ℕ, suc, Bool, true, false, if◌then◌else◌, List, [], ◌∷◌, ◌++◌, Option, Some, None, option_map, ◌||◌, refl, ap, ◌∙◌}
use Rattle.std.specs.Prelude.{bytes_eq}
use Rattle.std.proofs.lemmas.Cmp.{nat_list_eq_equiv}
use Rattle.octets.specs.Once.{found_in, is_listed}

-- a string that is listed already is found where it was
found_other : (listed : List (List ℕ)) (x q : List ℕ) → bytes_eq q x ≡ false → found_in bytes_eq (listed ++ x ∷ []) q ≡ found_in bytes_eq listed q
found_other [] x q h = ap (λ b. if b then Some 0 else None) h
found_other (y ∷ listed) x q h = ap (λ o. if bytes_eq q y then Some 0 else option_map suc o) (found_other listed x q h)

pub found_again : (listed : List (List ℕ)) (x q : List ℕ) → is_listed bytes_eq x listed ≡ true → found_in bytes_eq (listed ++ x ∷ []) q ≡ found_in bytes_eq listed q
found_again [] x q h = absurd cc
found_again (y ∷ listed) x q h = by_first (bytes_eq x y) refl h (λ k. found_again listed x q k)
  where
    choose : (a b : Bool) (m n : Option ℕ) → (a ≡ false → b ≡ false) → (b ≡ false → m ≡ n) → (if a then Some 0 else option_map suc m) ≡ (if a then Some 0 else option_map suc n)
    choose true b m n f g = refl
    choose false b m n f g = ap (option_map suc) (g (f refl))

    by_first : (first : Bool) → bytes_eq x y ≡ first → (first || is_listed bytes_eq x listed) ≡ true → (is_listed bytes_eq x listed ≡ true → found_in bytes_eq (listed ++ x ∷ []) q ≡ found_in bytes_eq listed q)
        → (if bytes_eq q y then Some 0 else option_map suc (found_in bytes_eq (listed ++ x ∷ []) q)) ≡ (if bytes_eq q y then Some 0 else option_map suc (found_in bytes_eq listed q))
    by_first true e h more = choose (bytes_eq q y) (bytes_eq q x) (found_in bytes_eq (listed ++ x ∷ []) q) (found_in bytes_eq listed q)
        (λ k. nat_list_eq_equiv.symm q x ∙ nat_list_eq_equiv.congr x y q e ∙ nat_list_eq_equiv.symm y q ∙ k)
        (λ k. found_other listed x q k)
    by_first false e h more = ap (λ o. if bytes_eq q y then Some 0 else option_map suc o) (more h)
