-- Pieces of a program, by the place where they stand.
use Rattle.std.proofs.Common.{◌≡◌, ℕ, zero, suc, ◌+◌, List, [], ◌∷◌, ◌++◌, Some, slice_get, drop, length, refl, subst, ◌∙◌, arith}
use Rattle.std.proofs.lemmas.List.{append_assoc}

module _ {A : Type 0} where
  -- from the place on stands the piece
  abbrev pub Stands : List A → ℕ → List A → Type 0
  Stands all place piece = (rest : List A) × (drop place all ≡ piece ++ rest)

  first_of_drop : (all : List A) (place : ℕ) (x : A) (rest : List A) → drop place all ≡ x ∷ rest → slice_get all place ≡ Some x
  first_of_drop [] zero x rest e = absurd (cc)
  first_of_drop [] (suc place) x rest e = absurd (cc)
  first_of_drop (y ∷ all) zero x rest e = let same : y ≡ x = cc in rw same refl
  first_of_drop (y ∷ all) (suc place) x rest e = first_of_drop all place x rest e

  rest_of_drop : (all : List A) (place : ℕ) (x : A) (rest : List A) → drop place all ≡ x ∷ rest → drop (suc place) all ≡ rest
  rest_of_drop [] zero x rest e = absurd (cc)
  rest_of_drop [] (suc place) x rest e = absurd (cc)
  rest_of_drop (y ∷ all) zero x rest e = let same : all ≡ rest = cc in same
  rest_of_drop (y ∷ all) (suc place) x rest e = rest_of_drop all place x rest e

  pub stands_first : (all : List A) (place : ℕ) (x : A) (piece : List A) → Stands all place (x ∷ piece) → slice_get all place ≡ Some x
  stands_first all place x piece h = first_of_drop all place x (piece ++ h.0) h.1

  pub stands_next : (all : List A) (place : ℕ) (x : A) (piece : List A) → Stands all place (x ∷ piece) → Stands all (suc place) piece
  stands_next all place x piece h = (h.0, rest_of_drop all place x (piece ++ h.0) h.1)

  pub stands_left : (all : List A) (place : ℕ) (a b : List A) → Stands all place (a ++ b) → Stands all place a
  stands_left all place a b h = (b ++ h.0, h.1 ∙ append_assoc a b h.0)

  stands_past : (all : List A) (place : ℕ) (a b : List A) → Stands all place (a ++ b) → Stands all (place + length a) b
  stands_past all place [] b h = let same : place ≡ place + 0 = omega arith in subst (λ n. Stands all n b) same h
  stands_past all place (x ∷ a) b h =
      let same : suc place + length a ≡ place + suc (length a) = omega arith in
      subst (λ n. Stands all n b) same (stands_past all (suc place) a b (stands_next all place x (a ++ b) h))

  pub stands_right : (all : List A) (place n : ℕ) (a b : List A) → length a ≡ n → Stands all place (a ++ b) → Stands all (place + n) b
  stands_right all place n a b e h = subst (λ m. Stands all (place + m) b) e (stands_past all place a b h)
