-- A delimiter or closing line ends a child.
use Rattle.std.proofs.Common.{◌≡◌, ℕ, true, List, refl, inl, inr}
use Rattle.std.proofs.lemmas.Bool.{cases_Bool}
use Rattle.mime_tree.specs.PartTree.{is_delimiter, is_closing, ends_child}

pub closing_ends : (boundary line : List ℕ) → is_closing boundary line ≡ true → ends_child boundary line ≡ true
closing_ends boundary line closing = elim (cases_Bool (is_delimiter boundary line)) [
  | inl is ↦ rw is refl
  | inr other ↦ rw (other, closing) refl
]
