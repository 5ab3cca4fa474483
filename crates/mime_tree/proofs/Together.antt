-- Parts at one depth share no octet, and how many octets all parts have together.
use Rattle.std.proofs.Common.{◌≡◌, ◌==◌, ℕ, ◌+◌, ◌-◌, ◌*◌, ◌<◌, ◌≤◌, zero, suc, Bool, List, [], ◌∷◌, ◌++◌, filter, refl, ap, subst, arith, length, sum_by, inl, inr, mul-add}
use Rattle.std.specs.List.{flat_map}
use Rattle.std.proofs.Math.Nat.{mul-le-mul_left}
use Rattle.std.proofs.lemmas.Bool.{cases_Bool, eqb-true, ne_eqb}
use Rattle.std.proofs.lemmas.List.Elements.{filter-append}
use Rattle.std.proofs.lemmas.List.Sums.{sum_by-append, sum_by-cons}
use Rattle.octets.specs.Limits.{max_depth}
use Rattle.header_fields.specs.Header.{body_start_of}
use Rattle.header_fields.proofs.Lengths.{body_start_within}
use Rattle.mime_params.specs.declared.media.MediaType.{MediaType}
use Rattle.mime_tree.specs.PartTree.{Part, Stretch, text_plain, default_below, children_of, part_at, parts_of, tree_of}
use Rattle.mime_tree.specs.Together.{AreOneByOne, octets_together}
use Rattle.mime_tree.proofs.Ranges.{AreIn, raw_stretch, children_stand}

-- ---- one depth

abbrev at_depth : ℕ → Part → Bool
at_depth depth part = part.depth == depth

one_lower : (low from to : ℕ) (parts : List Part) → low ≤ from → AreOneByOne from to parts → AreOneByOne low to parts
one_lower low from to [] le are = omega (arith, are)
one_lower low from to (part ∷ parts) le are = (omega (arith, are.0), are.1)

one_append : (from mid to : ℕ) (parts others : List Part) → AreOneByOne from mid parts → AreOneByOne mid to others → AreOneByOne from to (parts ++ others)
one_append from mid to [] others are later = one_lower from mid to others are later
one_append from mid to (part ∷ parts) others are later = (are.0, one_append (part.place + length part.raw) mid to parts others are.1 later)

forest_one : (keep : Part → Bool) (parts : Stretch → List Part) → ((stretch : Stretch) → AreOneByOne stretch.place (stretch.place + length stretch.octets) (filter keep (parts stretch)))
    → (whole : Stretch) (from to : ℕ) (stretches : List Stretch) → AreIn whole from to stretches → AreOneByOne from to (filter keep (flat_map parts stretches))
forest_one keep parts each whole from to [] are = are
forest_one keep parts each whole from to (stretch ∷ stretches) are =
    let end = stretch.place + length stretch.octets in
    rw (filter-append keep (parts stretch) (flat_map parts stretches))
    (one_append from end to (filter keep (parts stretch)) (filter keep (flat_map parts stretches)) (one_lower from stretch.place end (filter keep (parts stretch)) are.0 (each stretch))
    (forest_one keep parts each whole end to stretches are.2))

forest_none : (keep : Part → Bool) (parts : Stretch → List Part) → ((stretch : Stretch) → filter keep (parts stretch) ≡ [])
    → (stretches : List Stretch) → filter keep (flat_map parts stretches) ≡ []
forest_none keep parts none [] = refl
forest_none keep parts none (stretch ∷ stretches) =
    rw (filter-append keep (parts stretch) (flat_map parts stretches), none stretch) (forest_none keep parts none stretches)

-- the parts of a stretch are no less deep than itself
none_above : (levels depth : ℕ) → depth + levels < max_depth → (default : MediaType) (stretch : Stretch) → filter (at_depth depth) (parts_of levels default stretch) ≡ []
unfolding parts_of
none_above zero depth lt default stretch = rw (ne_eqb max_depth depth (omega arith)) refl
none_above (suc levels) depth lt default stretch =
    let part = part_at (max_depth - suc levels) default stretch in
    rw (ne_eqb (max_depth - suc levels) depth (omega arith))
    (forest_none (at_depth depth) (parts_of levels (default_below part.media)) (none_above levels depth (omega arith) (default_below part.media)) (children_of part))

one_at : (levels : ℕ) → levels < max_depth → (depth : ℕ) (default : MediaType) (stretch : Stretch)
    → AreOneByOne stretch.place (stretch.place + length stretch.octets) (filter (at_depth depth) (parts_of levels default stretch))
unfolding parts_of
one_at zero lt depth default stretch = elim (cases_Bool (max_depth == depth)) [
  | inl here ↦ rw here (omega arith, omega arith)
  | inr other ↦ rw other (omega arith)
]
one_at (suc levels) lt depth default stretch =
    let part = part_at (max_depth - suc levels) default stretch in
    let inside = flat_map (parts_of levels (default_below part.media)) (children_of part) in
    elim (cases_Bool (max_depth - suc levels == depth)) [
      | inl here ↦
          let same : max_depth - suc levels ≡ depth = eqb-true _ _ here in
          let none : filter (at_depth depth) inside ≡ [] = forest_none (at_depth depth) (parts_of levels (default_below part.media)) (none_above levels depth (omega arith) (default_below part.media)) (children_of part) in
          rw (here, none) (omega arith, omega arith)
      | inr other ↦
          rw other (
          one_lower stretch.place (stretch.place + body_start_of stretch.octets) (stretch.place + length stretch.octets) (filter (at_depth depth) inside) (omega arith)
          (forest_one (at_depth depth) (parts_of levels (default_below part.media)) (one_at levels (omega arith) depth (default_below part.media)) (raw_stretch part)
          (stretch.place + body_start_of stretch.octets) (stretch.place + length stretch.octets) (children_of part) (children_stand part (body_start_within stretch.octets))))
    ]

pub tree_one_by_one : (octets : List ℕ) (depth : ℕ) → AreOneByOne 0 (length octets) (filter (at_depth depth) (tree_of octets))
tree_one_by_one octets depth =
    let end : 0 + length octets ≡ length octets = omega arith in
    subst (λ to. AreOneByOne 0 to (filter (at_depth depth) (tree_of octets))) end (one_at (max_depth - 1) (omega arith) depth text_plain (record { place = 0; octets = octets }))

-- ---- all depths

abbrev stretches_together : List Stretch → ℕ
stretches_together stretches = sum_by (λ (stretch : Stretch). length stretch.octets) stretches

-- stretches one after the other have no more octets than there are between their places
sum_between : (whole : Stretch) (from to : ℕ) (stretches : List Stretch) → AreIn whole from to stretches → from + stretches_together stretches ≤ to
sum_between whole from to [] are = omega (arith, are)
sum_between whole from to (stretch ∷ stretches) are =
    omega (arith, are.0, sum_between whole (stretch.place + length stretch.octets) to stretches are.2, sum_by-cons (λ (s : Stretch). length s.octets) stretch stretches)

forest_together : (times : ℕ) (parts : Stretch → List Part) → ((stretch : Stretch) → octets_together (parts stretch) ≤ times * length stretch.octets)
    → (stretches : List Stretch) → octets_together (flat_map parts stretches) ≤ times * stretches_together stretches
forest_together times parts each [] = omega arith
forest_together times parts each (stretch ∷ stretches) =
    omega (
      arith,
      sum_by-append (λ (p : Part). length p.raw) (parts stretch) (flat_map parts stretches),
      each stretch,
      forest_together times parts each stretches,
      ap (λ n. times * n) (sum_by-cons (λ (s : Stretch). length s.octets) stretch stretches),
      mul-add times (length stretch.octets) (stretches_together stretches),
    )

parts_together : (levels : ℕ) (default : MediaType) (stretch : Stretch) → octets_together (parts_of levels default stretch) ≤ suc levels * length stretch.octets
unfolding parts_of
parts_together zero default stretch = omega (arith, sum_by-cons (λ (p : Part). length p.raw) (part_at max_depth default stretch) [])
parts_together (suc levels) default stretch =
    let part = part_at (max_depth - suc levels) default stretch in
    let inside = flat_map (parts_of levels (default_below part.media)) (children_of part) in
    let few = sum_between (raw_stretch part) _ _ (children_of part) (children_stand part (body_start_within stretch.octets)) in
    let less : stretches_together (children_of part) ≤ length stretch.octets = omega (arith, few) in
    let each = forest_together (suc levels) (parts_of levels (default_below part.media)) (parts_together levels (default_below part.media)) (children_of part) in
    omega (
      arith,
      sum_by-cons (λ (p : Part). length p.raw) (record part { below = length inside }) inside,
      each,
      mul-le-mul_left (suc levels) less,
    )

pub tree_together : (octets : List ℕ) → octets_together (tree_of octets) ≤ max_depth * length octets
tree_together octets = parts_together (max_depth - 1) text_plain (record { place = 0; octets = octets })
