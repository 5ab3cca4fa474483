-- What is kept of a value that set the captures.
use Rattle.std.specs.Prelude.{◌≡◌, ◌⊎◌, ℕ, List}
use Rattle.std.specs.Cow.{IsBorrowedSlice, cow_slice_items}
use Rattle.std.specs.List.{concat}
use Rattle.std.specs.declared.borrow.CowSlice.{CowSlice}

-- octets that aren't lent are texts, one after the other, and nothing else
abbrev pub HasNoMore : {Z : Type 0} → CowSlice ℕ Z → List (List ℕ) → Type 0
HasNoMore octets texts = IsBorrowedSlice octets ⊎ (cow_slice_items octets ≡ concat texts)
