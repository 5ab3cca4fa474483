-- The variable that an action sets.
use Rattle.std.proofs.Common.{◌≡◌, List, Option, None, Some, ap, refl, slice_get, sym, ◌∙◌}
use Rattle.std.specs.Option.{option_to_list}

first_of : {A : Type 0} (o : Option A) → slice_get (option_to_list o) 0 ≡ o
first_of None = refl
first_of (Some x) = refl

-- it is the first of those in the row
pub only_one : {A : Type 0} (o : Option A) (xs : List A) → option_to_list o ≡ xs → o ≡ slice_get xs 0
only_one o xs is = sym (first_of o) ∙ ap (λ l. slice_get l 0) is
