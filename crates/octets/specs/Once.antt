-- Lists that have each element once, at its first place. A test says which elements are the same.
use Rattle.std.specs.Prelude.{ℕ, suc, Bool, List, [], ◌∷◌, ◌++◌, not, filter, Option, Some, None, option_map, if◌then◌else◌}
use Rattle.std.specs.List.{list_any}

module _ {A : Type 0} (same : A → A → Bool) where
  -- the elements in order, without those that are the same as an earlier one
  abbrev pub each_once : List A → List A
  each_once [] = []
  each_once (x ∷ xs) = x ∷ filter (λ y. not (same x y)) (each_once xs)

  -- whether the same is listed
  abbrev pub is_listed : A → List A → Bool
  is_listed x listed = list_any (same x) listed

  -- the list with one more element, which is left out where the same is listed
  abbrev pub with_one : List A → A → List A
  with_one listed x = if is_listed x listed then listed else listed ++ x ∷ []

  -- the list with more elements, one after the other
  abbrev pub with_more : List A → List A → List A
  with_more listed [] = listed
  with_more listed (x ∷ xs) = with_more (with_one listed x) xs

  -- the first place where the same is listed; the list's end, where it isn't
  abbrev pub place_in : List A → A → ℕ
  place_in [] x = 0
  place_in (y ∷ ys) x = if same x y then 0 else suc (place_in ys x)

  -- the first place where the same is listed, if it is
  abbrev pub found_in : List A → A → Option ℕ
  found_in [] x = None
  found_in (y ∷ ys) x = if same x y then Some 0 else option_map suc (found_in ys x)
