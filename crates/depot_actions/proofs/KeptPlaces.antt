-- Where a program that is kept stands.
use Rattle.std.proofs.Common.{◌≡◌, ◌∙◌, ℕ, List, [], Some, bytes_eq, get_or, slice_get, ap}
use Rattle.std.proofs.lemmas.List.Quantifiers.{position-Some}
use Rattle.std.proofs.lemmas.Option.{slice_get-get_or}
use Rattle.std.proofs.lemmas.Slice.Eq.{bytes_eq-Decides}
use Rattle.depot_actions.specs.KeptPrograms.{place_of}

-- at the place that was found stand the octets that were looked for
pub found_kept : (program : List ℕ) (kept : List (List ℕ)) (place : ℕ) → place_of program kept ≡ Some place → slice_get kept place ≡ Some program
found_kept program kept place is =
    let at = position-Some (λ one. bytes_eq one program) kept place [] is in
    slice_get-get_or kept place [] at.0 ∙ ap Some ((bytes_eq-Decides (get_or kept place []) program).0 at.1)
