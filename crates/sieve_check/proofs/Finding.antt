-- The first of a list that is so, where there is none.
use Rattle.std.proofs.Common.{◌≡◌, Bool, true, false, ◌||◌, if◌then◌else◌, List, [], ◌∷◌, Option, Some, None, refl}
use Rattle.std.specs.List.{find, list_any}

-- where none is, it is so of none of them
none_step : {A : Type 0} (b rest : Bool) (x : A) (o : Option A) → (o ≡ None → rest ≡ false) → (if b then Some x else o) ≡ None → (b || rest) ≡ false
none_step true rest x o h k = absurd (cc)
none_step false rest x o h k = h k

pub none_where : {A : Type 0} (p : A → Bool) (xs : List A) → find p xs ≡ None → list_any p xs ≡ false
none_where p [] h = refl
none_where p (x ∷ xs) h = none_step (p x) (list_any p xs) x (find p xs) (none_where p xs) h
