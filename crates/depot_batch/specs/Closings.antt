-- Lines of an answer that begin as the line does that ends it.
use Rattle.std.specs.Prelude.{ℕ, ◌==◌, ◌&&◌, ◌||◌, Bool, false, List, [], ◌∷◌}

-- a sign of equality (61) and a space stand first
abbrev pub begins_closing : List ℕ → Bool
begins_closing [] = false
begins_closing (octet ∷ []) = false
begins_closing (octet ∷ next ∷ rest) = octet == 61 && next == 32

-- a line of the text begins so; the first tells whether the text begins a line
abbrev pub has_closing : Bool → List ℕ → Bool
has_closing at_start [] = false
has_closing at_start (octet ∷ rest) =
    (at_start && begins_closing (octet ∷ rest)) || has_closing (octet == 10) rest
