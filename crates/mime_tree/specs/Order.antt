-- Where the parts of a message stand.
use Rattle.std.specs.Prelude.{◌≡◌, ℕ, ◌+◌, ◌<◌, ◌≤◌, List, [], ◌∷◌, length, slice_get, slice_range, sum_by, Some}
use Rattle.octets.specs.Limits.{max_depth}
use Rattle.header_fields.specs.Extent.{fields_extent}
use Rattle.mime_tree.specs.PartTree.{Part, body_of}

-- the headers of parts come one after the other, between these places, each with the empty line that ends it; so no two of
-- them share an octet
abbrev pub AreApart : ℕ → ℕ → List Part → Type 0
AreApart from to [] = from ≤ to
AreApart from to (part ∷ parts) = (from ≤ part.place) × AreApart (part.place + part.header.body_start) to parts

-- how many octets the fields of all parts take at least
abbrev pub parts_extent : List Part → ℕ
parts_extent parts = sum_by (λ (part : Part). fields_extent part.header.fields) parts

-- by how many parts are below one: those below a part come right after it, and below one of those
-- are none but they
module _ {A : Type 0} (below : A → ℕ) where
  pub record Nests (parts : List A) (place : ℕ) (part : A) : Type 0 where
    pub within : place + below part < length parts
    pub inner : (other : ℕ) (inside : A) → place < other → other ≤ place + below part
        → slice_get parts other ≡ Some inside → other + below inside ≤ place + below part

-- how many parts are below a part
abbrev pub below_of : Part → ℕ
below_of part = part.below

-- a part's octets stand at its place in the message, and its body is no longer than they
pub record IsInMessage (octets : List ℕ) (part : Part) : Type 0 where
  pub within : part.place + length part.raw ≤ length octets
  pub here : slice_range octets part.place (part.place + length part.raw) ≡ part.raw
  pub body : length (body_of part) ≤ length part.raw
  pub deep : 0 < part.depth
  pub not_too_deep : part.depth ≤ max_depth

-- the first part is the message, and all others are below it
pub record IsWhole (octets : List ℕ) (parts : List Part) (part : Part) : Type 0 where
  pub depth : part.depth ≡ 1
  pub below : part.below + 1 ≡ length parts
  pub place : part.place ≡ 0
  pub raw : part.raw ≡ octets
