-- Parts that share no octet, and how many octets parts have together.
use Rattle.std.specs.Prelude.{ℕ, ◌+◌, ◌≤◌, List, [], ◌∷◌, length, sum_by}
use Rattle.mime_tree.specs.PartTree.{Part}

-- parts come one after the other between these places, and no two of them share an octet
abbrev pub AreOneByOne : ℕ → ℕ → List Part → Type 0
AreOneByOne from to [] = from ≤ to
AreOneByOne from to (part ∷ parts) = (from ≤ part.place) × AreOneByOne (part.place + length part.raw) to parts

-- how many octets parts have together, those of their headers too
abbrev pub octets_together : List Part → ℕ
octets_together parts = sum_by (λ (part : Part). length part.raw) parts
