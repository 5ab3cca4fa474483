-- The lengths of the open parts' boundaries.
use Rattle.std.proofs.Common.{◌≡◌, ◌≢◌, ℕ, ◌+◌, ◌<◌, ◌≤◌, ◌⊎◌, Bool, true, false, ◌&&◌, List, [], ◌∷◌, ◌++◌, refl, ◌∙◌, ap, arith, length, codes, inl, inr, Option, Some, None}
use Rattle.std.specs.Prelude.{bytes_eq}
use Rattle.std.proofs.lemmas.Bool.{cases_Bool}
use Rattle.std.proofs.lemmas.List.{length-append}
use Rattle.std.proofs.lemmas.Slice.Eq.{bytes_eq-Decides}
use Rattle.mime_tree.specs.PartTree.{is_delimiter, is_closing}
use Rattle.mime_tree.specs.OpenParts.{OpenPart, is_last, meets, meets_any}
use Rattle.mime_tree.specs.Reading.{AreLeaves, AreWithin, IsWithin}
use Rattle.mime_tree.specs.declared.lengths.BoundaryLengths.{BoundaryLengths}

-- ---- how they are found

wider : (old new : BoundaryLengths) (boundary : Option (List ℕ)) → new.least ≤ old.least → old.most ≤ new.most → IsWithin old boundary → IsWithin new boundary
wider old new None least most within = tt
wider old new (Some boundary) least most within = (omega (arith, least, within.0), omega (arith, most, within.1))

-- the parts so far, and one more
pub within_more : (old new : BoundaryLengths) (parts : List OpenPart) (part : OpenPart) → new.least ≤ old.least → old.most ≤ new.most → AreWithin old parts → IsWithin new part.boundary
    → AreWithin new (parts ++ part ∷ [])
within_more old new [] part least most within this = (this, tt)
within_more old new (first ∷ parts) part least most within this =
    (wider old new first.boundary least most within.0, within_more old new parts part least most within.1 this)

-- ---- what they say

no_boundary : (lengths : BoundaryLengths) (boundary : Option (List ℕ)) → lengths.most < lengths.least → IsWithin lengths boundary → boundary ≡ None
no_boundary lengths None none within = refl
no_boundary lengths (Some boundary) none within = absurd (omega (arith, none, within.0, within.1))

-- where the least is above the most no part has a boundary
pub leaves_of : (lengths : BoundaryLengths) (opened : List OpenPart) → lengths.most < lengths.least → AreWithin lengths opened → AreLeaves opened
leaves_of lengths [] none within = tt
leaves_of lengths (part ∷ inner) none within = (no_boundary lengths part.boundary none within.0, leaves_of lengths inner none within.1)

differs : (name boundary : List ℕ) → length name ≢ length boundary → bytes_eq name boundary ≡ false
differs name boundary other = elim (cases_Bool (bytes_eq name boundary)) [
  | inl same ↦ absurd (other (ap length ((bytes_eq-Decides _ _).0 same)))
  | inr is ↦ is
]

outside_one : (lengths : BoundaryLengths) (preamble : Bool) (boundary : Option (List ℕ)) (line name : List ℕ) → (length name < lengths.least) ⊎ (lengths.most + 2 < length name)
    → ((b : List ℕ) → is_delimiter b line ≡ bytes_eq name b) → IsWithin lengths boundary → meets preamble boundary line ≡ false
outside_one lengths preamble None line name outside named within = refl
outside_one lengths preamble (Some boundary) line name outside named within =
    by_kind preamble (named boundary ∙ differs name boundary (λ e. other outside e)) (named (boundary ++ codes "--") ∙ differs name (boundary ++ codes "--") (λ e. longer outside e))
  where
    other : (length name < lengths.least) ⊎ (lengths.most + 2 < length name) → length name ≡ length boundary → ⊥
    other (inl short) e = omega (arith, short, e, within.0)
    other (inr long) e = omega (arith, long, e, within.1)

    longer : (length name < lengths.least) ⊎ (lengths.most + 2 < length name) → length name ≡ length (boundary ++ codes "--") → ⊥
    longer (inl short) e = omega (arith, short, e, length-append boundary (codes "--"), within.0)
    longer (inr long) e = omega (arith, long, e, length-append boundary (codes "--"), within.1)

    by_kind : (preamble : Bool) → is_delimiter boundary line ≡ false → is_closing boundary line ≡ false → meets preamble (Some boundary) line ≡ false
    by_kind true delimiter closing = delimiter
    by_kind false delimiter closing = rw (delimiter, closing) refl

-- a line whose name has a length that none of theirs has meets no part
pub outside_met : (lengths : BoundaryLengths) (preamble : Bool) (opened : List OpenPart) (line name : List ℕ) → (length name < lengths.least) ⊎ (lengths.most + 2 < length name)
    → ((b : List ℕ) → is_delimiter b line ≡ bytes_eq name b) → AreWithin lengths opened → meets_any preamble opened line ≡ false
outside_met lengths preamble [] line name outside named within = refl
outside_met lengths preamble (part ∷ inner) line name outside named within =
    let here : meets (is_last inner && preamble) part.boundary line ≡ false = outside_one lengths (is_last inner && preamble) part.boundary line name outside named within.0 in
    rw (here, outside_met lengths preamble inner line name outside named within.1) refl
