-- Lists that have each element once, and escapes, by computation.
use Rattle.std.proofs.Common.{◌≡◌, true, false, nat_eq, [], ◌∷◌, Some, None, refl}
use Rattle.octets.specs.Once.{each_once, is_listed, with_one, with_more, place_in, found_in}
use Rattle.octets.specs.Ascii.{lowercase_of}
use Rattle.octets.specs.Escapes.{octet_of_digits, said_at}
use Rattle.std.specs.Cmp.Lexicographic.{pointwise}

first_places_stay : each_once nat_eq (3 ∷ 1 ∷ 3 ∷ 2 ∷ 1 ∷ []) ≡ 3 ∷ 1 ∷ 2 ∷ []
first_places_stay = refl

-- texts that a test takes for the same: the first of them stays
the_first_stays : each_once (λ a b. pointwise nat_eq (lowercase_of a) (lowercase_of b)) ((97 ∷ []) ∷ (98 ∷ []) ∷ (65 ∷ []) ∷ []) ≡ (97 ∷ []) ∷ (98 ∷ []) ∷ []
the_first_stays = refl

listed_or_not : (is_listed nat_eq 2 (3 ∷ 2 ∷ []) ≡ true) × (is_listed nat_eq 2 (3 ∷ 1 ∷ []) ≡ false) × (is_listed nat_eq 2 [] ≡ false)
listed_or_not = (refl, refl, refl)

one_more : (with_one nat_eq (3 ∷ 1 ∷ []) 2 ≡ 3 ∷ 1 ∷ 2 ∷ []) × (with_one nat_eq (3 ∷ 1 ∷ []) 3 ≡ 3 ∷ 1 ∷ [])
one_more = (refl, refl)

several_more : with_more nat_eq (3 ∷ []) (1 ∷ 3 ∷ 1 ∷ 2 ∷ []) ≡ 3 ∷ 1 ∷ 2 ∷ []
several_more = refl

places : (place_in nat_eq (3 ∷ 1 ∷ 2 ∷ []) 1 ≡ 1) × (place_in nat_eq (3 ∷ 1 ∷ 1 ∷ []) 1 ≡ 1) × (place_in nat_eq (3 ∷ 1 ∷ []) 2 ≡ 2)
places = (refl, refl, refl)

found_or_not : (found_in nat_eq (3 ∷ 1 ∷ 2 ∷ []) 1 ≡ Some 1) × (found_in nat_eq (3 ∷ 1 ∷ []) 2 ≡ None)
found_or_not = (refl, refl)

-- `4a`, `FF`, and `g0`, which is none
digits_read : (octet_of_digits 52 97 ≡ Some 74) × (octet_of_digits 70 70 ≡ Some 255) × (octet_of_digits 103 48 ≡ None)
digits_read = (refl, refl, refl)

-- `A` says itself, `\41` says `A`, and `\4` says nothing
said_or_not : (said_at 65 (66 ∷ []) ≡ Some (65, 66 ∷ [])) × (said_at 92 (52 ∷ 49 ∷ 66 ∷ []) ≡ Some (65, 66 ∷ [])) × (said_at 92 (52 ∷ []) ≡ None)
said_or_not = (refl, refl, refl)
