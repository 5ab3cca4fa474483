-- Captures, one stretch after another.
use Rattle.std.proofs.Common.{◌≡◌, ℕ, zero, suc, ◌+◌, ◌<◌, ◌≤◌, List, [], ◌∷◌, ◌++◌, map, length, take, refl, sym, ap, ◌∙◌, arith}
use Rattle.std.proofs.lemmas.List.{append-nil, append_assoc, length-append, map-append, take_all, take_at}
use Rattle.glob_match.specs.declared.captures.Stretch.{Stretch}
use Rattle.glob_match.specs.declared.token.Token.{Token}
use Rattle.glob_match.specs.declared.token.Token.TheVariants.{Literal, AnyOctet, Star}
use Rattle.glob_match.specs.Captures.{cut, stretch_at}
use Rattle.glob_match.specs.Matching.{max_captures}
use Rattle.glob_match.specs.Segments.{any_places, with_stretches}

-- one more where there is room, and where there is none
pub pushed : (captures : List Stretch) (stretch kept : Stretch) → length captures < max_captures → kept ≡ cut stretch
    → captures ++ kept ∷ [] ≡ with_stretches captures (stretch ∷ [])
pushed captures stretch kept room e =
    ap (λ s. captures ++ s ∷ []) e
    ∙ sym (take_all max_captures (captures ++ cut stretch ∷ []) (omega (arith, length-append captures (cut stretch ∷ []))))

pub full : (captures stretches : List Stretch) → length captures ≡ max_captures → captures ≡ with_stretches captures stretches
full captures stretches e = sym (take_at captures (map cut stretches) max_captures e)

-- what is cut twice
take-taken : {A : Type 0} (n : ℕ) (xs ys : List A) → take n (take n xs ++ ys) ≡ take n (xs ++ ys)
take-taken zero xs ys = refl
take-taken (suc n) [] ys = refl
take-taken (suc n) (x ∷ xs) ys = ap (λ zs. x ∷ zs) (take-taken n xs ys)

-- stretches after others
pub with_stretches-append : (captures first second : List Stretch)
    → with_stretches (with_stretches captures first) second ≡ with_stretches captures (first ++ second)
with_stretches-append captures first second =
    take-taken max_captures (captures ++ map cut first) (map cut second)
    ∙ ap (take max_captures) (append_assoc captures (map cut first) (map cut second)
    ∙ ap (λ xs. captures ++ xs) (sym (map-append cut first second)))

pub with_none : (captures : List Stretch) → length captures ≤ max_captures → with_stretches captures [] ≡ captures
with_none captures few = ap (take max_captures) (append-nil captures) ∙ take_all max_captures captures few

-- what the captures still gain, before and after a token
module _ (place : ℕ) (key rest : List Token) where
  pub any_added : (captures new : List Stretch) → key ≡ AnyOctet ∷ rest → new ≡ with_stretches captures (stretch_at place 1 ∷ [])
      → with_stretches new (any_places (place + 1) rest) ≡ with_stretches captures (any_places place key)
  any_added captures new is e =
      ap (λ cs. with_stretches cs (any_places (place + 1) rest)) e
      ∙ with_stretches-append captures (stretch_at place 1 ∷ []) (any_places (place + 1) rest)
      ∙ ap (λ ts. with_stretches captures (any_places place ts)) (sym is)

  pub none_added : (captures : List Stretch) (token : Token) → key ≡ token ∷ rest → (token ≡ AnyOctet → ⊥)
      → with_stretches captures (any_places (place + 1) rest) ≡ with_stretches captures (any_places place key)
  none_added captures token is other =
      ap (with_stretches captures) (sym (ap (any_places place) is ∙ by token other))
    where
      by : (token : Token) → (token ≡ AnyOctet → ⊥) → any_places place (token ∷ rest) ≡ any_places (place + 1) rest
      by (Literal octet) other = refl
      by AnyOctet other = absurd (other refl)
      by Star other = refl
