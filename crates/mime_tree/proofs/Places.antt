-- Where the parts of a message stand.
use Rattle.std.proofs.Common.{◌≡◌, ℕ, ◌+◌, ◌-◌, ◌<◌, ◌≤◌, zero, suc, List, [], ◌∷◌, ◌++◌, Some, refl, sym, ◌∙◌, ap, subst, arith, get_or, length, inl, inr}
use Rattle.std.specs.Prelude.{slice_get, slice_range}
use Rattle.std.specs.List.{flat_map}
use Rattle.std.proofs.lemmas.Bool.{cases_lt}
use Rattle.std.proofs.lemmas.List.{length-append, length-drop}
use Rattle.std.proofs.lemmas.List.Sums.{sum_by-cons}
use Rattle.std.proofs.Math.Seq.{take-append_seam, drop-append_seam}
use Rattle.octets.specs.Limits.{max_depth}
use Rattle.header_fields.specs.Header.{body_start_of}
use Rattle.header_fields.specs.Extent.{IsHeader, fields_extent}
use Rattle.header_fields.proofs.Lengths.{body_start_within, values_fit}
use Rattle.mime_params.specs.declared.media.MediaType.{MediaType}
use Rattle.mime_tree.specs.PartTree.{Part, Stretch, text_plain, default_below, children_of, part_at, with_below, parts_of, tree_of}
use Rattle.mime_tree.specs.Readable.{IsTree}
use Rattle.mime_tree.specs.Order.{AreApart, parts_extent, Nests, below_of, IsInMessage, IsWhole}
use Rattle.mime_tree.proofs.Ranges.{IsIn, in_itself, in_through, AreIn, raw_stretch, children_stand}
use Rattle.mime_tree.proofs.Below.{parts_more}

-- ---- the headers

apart_lower : (low from to : ℕ) (parts : List Part) → low ≤ from → AreApart from to parts → AreApart low to parts
apart_lower low from to [] le apart = omega arith
apart_lower low from to (part ∷ parts) le apart = (omega (arith, apart.0), apart.1)

apart_append : (from mid to : ℕ) (parts others : List Part) → AreApart from mid parts → AreApart mid to others → AreApart from to (parts ++ others)
apart_append from mid to [] others apart later = apart_lower from mid to others apart later
apart_append from mid to (part ∷ parts) others apart later = (apart.0, apart_append (part.place + part.header.body_start) mid to parts others apart.1 later)

forest_apart : (parts : Stretch → List Part) → ((stretch : Stretch) → AreApart stretch.place (stretch.place + length stretch.octets) (parts stretch))
    → (whole : Stretch) (from to : ℕ) (stretches : List Stretch) → AreIn whole from to stretches → AreApart from to (flat_map parts stretches)
forest_apart parts each whole from to [] are = are
forest_apart parts each whole from to (stretch ∷ stretches) are =
    let end = stretch.place + length stretch.octets in
    apart_append from end to (parts stretch) (flat_map parts stretches) (apart_lower from stretch.place end (parts stretch) are.0 (each stretch)) (forest_apart parts each whole end to stretches are.2)

pub parts_apart : (levels : ℕ) (default : MediaType) (stretch : Stretch) → AreApart stretch.place (stretch.place + length stretch.octets) (parts_of levels default stretch)
unfolding parts_of
parts_apart zero default stretch = (omega arith, omega (arith, body_start_within stretch.octets))
parts_apart (suc levels) default stretch =
    let part = part_at (max_depth - suc levels) default stretch in (
      omega arith,
      forest_apart (parts_of levels (default_below part.media)) (parts_apart levels (default_below part.media)) (raw_stretch part)
          (stretch.place + body_start_of stretch.octets) (stretch.place + length stretch.octets) (children_of part) (children_stand part (body_start_within stretch.octets)),
    )

-- ---- each part

pub record Fits (whole : Stretch) (part : Part) : Type 0 where
  pub inside : IsIn whole (raw_stretch part)
  pub header : part.header.body_start ≤ length part.raw
  pub fields : IsHeader part.header
  pub deep : 0 < part.depth
  pub not_too_deep : part.depth ≤ max_depth

abbrev AllFit : Stretch → List Part → Type 0
AllFit whole [] = Unit {0}
AllFit whole (part ∷ parts) = Fits whole part × AllFit whole parts

fit_larger : (whole stretch : Stretch) (parts : List Part) → IsIn whole stretch → AllFit stretch parts → AllFit whole parts
fit_larger whole stretch [] inside fit = tt
fit_larger whole stretch (part ∷ parts) inside fit =
    let one = fit.0 in (
      record { inside = in_through whole stretch (raw_stretch part) inside one.inside; header = one.header; fields = one.fields; deep = one.deep; not_too_deep = one.not_too_deep },
      fit_larger whole stretch parts inside fit.1,
    )

fit_append : (whole : Stretch) (parts others : List Part) → AllFit whole parts → AllFit whole others → AllFit whole (parts ++ others)
fit_append whole [] others fit later = later
fit_append whole (part ∷ parts) others fit later = (fit.0, fit_append whole parts others fit.1 later)

forest_fit : (parts : Stretch → List Part) → ((stretch : Stretch) → AllFit stretch (parts stretch))
    → (whole : Stretch) (from to : ℕ) (stretches : List Stretch) → AreIn whole from to stretches → AllFit whole (flat_map parts stretches)
forest_fit parts each whole from to [] are = tt
forest_fit parts each whole from to (stretch ∷ stretches) are =
    fit_append whole (parts stretch) (flat_map parts stretches) (fit_larger whole stretch (parts stretch) are.1 (each stretch))
    (forest_fit parts each whole (stretch.place + length stretch.octets) to stretches are.2)

pub parts_fit : (levels : ℕ) → levels < max_depth → (default : MediaType) (stretch : Stretch) → AllFit stretch (parts_of levels default stretch)
unfolding parts_of
parts_fit zero lt default stretch =
    (record { inside = in_itself stretch; header = body_start_within stretch.octets; fields = values_fit stretch.octets; deep = omega arith; not_too_deep = omega arith }, tt)
parts_fit (suc levels) lt default stretch =
    let part = part_at (max_depth - suc levels) default stretch in (
      record { inside = in_itself stretch; header = body_start_within stretch.octets; fields = values_fit stretch.octets; deep = omega arith; not_too_deep = omega arith },
      forest_fit (parts_of levels (default_below part.media)) (parts_fit levels (omega arith) (default_below part.media)) (raw_stretch part)
          (stretch.place + body_start_of stretch.octets) (stretch.place + length stretch.octets) (children_of part) (children_stand part (body_start_within stretch.octets)),
    )

fit_at : (whole : Stretch) (parts : List Part) (place : ℕ) (part : Part) → AllFit whole parts → slice_get parts place ≡ Some part → Fits whole part
fit_at whole [] place part fit is = absurd (cc)
fit_at whole (first ∷ parts) zero part fit is = let same : first ≡ part = cc in subst (λ (p : Part). Fits whole p) same fit.0
fit_at whole (first ∷ parts) (suc place) part fit is = fit_at whole parts place part fit.1 is

-- ---- all fields

extent_fits : (whole : Stretch) (from to : ℕ) (parts : List Part) → AllFit whole parts → AreApart from to parts → from + parts_extent parts ≤ to
extent_fits whole from to [] fit apart = omega (arith, apart)
extent_fits whole from to (part ∷ parts) fit apart =
    omega (arith, apart.0, fit.0.fields, sum_by-cons (λ (p : Part). fields_extent p.header.fields) part parts, extent_fits whole (part.place + part.header.body_start) to parts fit.1 apart.1)

-- ---- the parts below a part

abbrev AllNest : List Part → Type 0
AllNest parts = (place : ℕ) (part : Part) → slice_get parts place ≡ Some part → Nests below_of parts place part

get_left : (parts others : List Part) (place : ℕ) → place < length parts → slice_get (parts ++ others) place ≡ slice_get parts place
get_left [] others place lt = absurd (omega arith)
get_left (part ∷ parts) others zero lt = refl
get_left (part ∷ parts) others (suc place) lt = get_left parts others place (omega arith)

get_right : (parts others : List Part) (place : ℕ) → length parts ≤ place → slice_get (parts ++ others) place ≡ slice_get others (place - length parts)
get_right [] others place le = let none : place - 0 ≡ place = omega arith in rw none refl
get_right (part ∷ parts) others zero le = absurd (omega arith)
get_right (part ∷ parts) others (suc place) le =
    let less : suc place - length (part ∷ parts) ≡ place - length parts = omega arith in rw less (get_right parts others place (omega arith))

nests_append : (parts others : List Part) → AllNest parts → AllNest others → AllNest (parts ++ others)
nests_append parts others nest later place part is = elim (cases_lt place (length parts)) [
  | inl lt ↦
      let one = nest place part (sym (get_left parts others place lt) ∙ is) in record {
        within = omega (arith, one.within, length-append parts others);
        inner = λ other inside after upto here. one.inner other inside after upto (sym (get_left parts others other (omega (arith, one.within))) ∙ here);
      }
  | inr ge ↦
      let one = later (place - length parts) part (sym (get_right parts others place ge) ∙ is) in record {
        within = omega (arith, one.within, length-append parts others);
        inner = λ other inside after upto here.
            omega (arith, one.inner (other - length parts) inside (omega arith) (omega arith) (sym (get_right parts others other (omega arith)) ∙ here));
      }
]

nests_forest : (parts : Stretch → List Part) → ((stretch : Stretch) → AllNest (parts stretch)) → (stretches : List Stretch) → AllNest (flat_map parts stretches)
nests_forest parts each [] place part is = absurd (cc)
nests_forest parts each (stretch ∷ stretches) place part is = nests_append (parts stretch) (flat_map parts stretches) (each stretch) (nests_forest parts each stretches) place part is

nests_below : (part : Part) (parts : List Part) → AllNest parts → AllNest (with_below part parts)
nests_below part parts nest zero first is =
    let same : record part { below = length parts } ≡ first = cc in
    let below : length parts ≡ first.below = ap (λ (p : Part). p.below) same in
    record {
      within = omega arith;
      inner = λ other inside after upto here. inner_of other inside after upto here below;
    } where
      inner_of : (other : ℕ) (inside : Part) → 0 < other → other ≤ 0 + first.below → slice_get (with_below part parts) other ≡ Some inside → length parts ≡ first.below → other + inside.below ≤ 0 + first.below
      inner_of zero inside after upto here below = absurd (omega arith)
      inner_of (suc other) inside after upto here below = omega (arith, (nest other inside here).within)
nests_below part parts nest (suc place) found is =
    let one = nest place found is in record {
      within = omega (arith, one.within);
      inner = λ other inside after upto here. inner_of other inside after upto here;
    } where
      inner_of : (other : ℕ) (inside : Part) → suc place < other → other ≤ suc place + found.below → slice_get (with_below part parts) other ≡ Some inside → other + inside.below ≤ suc place + found.below
      inner_of zero inside after upto here = absurd (omega arith)
      inner_of (suc other) inside after upto here = omega (arith, (nest place found is).inner other inside (omega arith) (omega arith) here)

pub parts_nest : (levels : ℕ) (default : MediaType) (stretch : Stretch) → AllNest (parts_of levels default stretch)
unfolding parts_of
parts_nest zero default stretch = nests_below (part_at max_depth default stretch) [] (λ place part is. absurd (cc))
parts_nest (suc levels) default stretch =
    let part = part_at (max_depth - suc levels) default stretch in
    nests_below part (flat_map (parts_of levels (default_below part.media)) (children_of part))
    (nests_forest (parts_of levels (default_below part.media)) (parts_nest levels (default_below part.media)) (children_of part))

-- ---- of a message

abbrev message : List ℕ → Stretch
message octets = record { place = 0; octets = octets }

pub tree_apart : (octets : List ℕ) → AreApart 0 (length octets) (tree_of octets)
tree_apart octets =
    let end : 0 + length octets ≡ length octets = omega arith in
    subst (λ (n : ℕ). AreApart 0 n (tree_of octets)) end (parts_apart (max_depth - 1) text_plain (message octets))

pub tree_extent : (octets : List ℕ) → parts_extent (tree_of octets) ≤ length octets
tree_extent octets = omega (arith, extent_fits (message octets) 0 (length octets) (tree_of octets) (parts_fit (max_depth - 1) (omega arith) text_plain (message octets)) (tree_apart octets))

stretch_here : (whole : List ℕ) (part : Part) → IsIn (message whole) (raw_stretch part) → slice_range whole part.place (part.place + length part.raw) ≡ part.raw
stretch_here whole part inside =
    let place : part.place ≡ length inside.before = omega (arith, inside.place) in
    let more : length inside.before + length part.raw - length inside.before ≡ length part.raw = omega arith in
    rw (inside.octets, place, more, drop-append_seam inside.before (part.raw ++ inside.after)) (take-append_seam part.raw inside.after)

pub tree_within : (octets : List ℕ) (place : ℕ) (part : Part) → slice_get (tree_of octets) place ≡ Some part → IsInMessage octets part
tree_within octets place part is =
    let fits = fit_at (message octets) (tree_of octets) place part (parts_fit (max_depth - 1) (omega arith) text_plain (message octets)) is in
    let inside = fits.inside in
    record {
      within = omega (arith, inside.place, ap length inside.octets, length-append inside.before (part.raw ++ inside.after), length-append part.raw inside.after);
      here = stretch_here octets part inside;
      body = omega (arith, length-drop part.header.body_start part.raw);
      deep = fits.deep;
      not_too_deep = fits.not_too_deep;
    }

pub tree_whole : (octets : List ℕ) (part : Part) → slice_get (tree_of octets) 0 ≡ Some part → IsWhole octets (tree_of octets) part
tree_whole octets part is =
    let first = part_at 1 text_plain (message octets) in
    let below = flat_map (parts_of 30 (default_below first.media)) (children_of first) in
    let made : tree_of octets ≡ with_below first below = parts_more 31 text_plain (message octets) (omega arith) in
    let at : Some (record first { below = length below }) ≡ Some part = sym (ap (λ (ps : List Part). slice_get ps 0) made) ∙ is in
    let same : record first { below = length below } ≡ part = cc in
    record {
      depth = sym (ap (λ (p : Part). p.depth) same);
      below = omega (arith, ap length made, ap (λ (p : Part). p.below) same);
      place = sym (ap (λ (p : Part). p.place) same);
      raw = sym (ap (λ (p : Part). p.raw) same);
    }

pub tree_nests : (octets : List ℕ) (place : ℕ) (part : Part) → slice_get (tree_of octets) place ≡ Some part → Nests below_of (tree_of octets) place part
tree_nests octets = parts_nest (max_depth - 1) text_plain (message octets)

-- the header of a part of a tree is no longer than it
pub tree_headers : (parts : List Part) → IsTree parts → (place : ℕ) (part : Part) → place < length parts → part ≡ get_or parts place part → part.header.body_start ≤ length part.raw
tree_headers parts is place part lt here =
    fit_there (message is.octets) parts place part (subst (AllFit (message is.octets)) (sym is.tree) (parts_fit (max_depth - 1) (omega arith) text_plain (message is.octets))) lt here where
      fit_there : (whole : Stretch) (parts : List Part) (place : ℕ) (part : Part) → AllFit whole parts → place < length parts → part ≡ get_or parts place part → part.header.body_start ≤ length part.raw
      fit_there whole [] place part fit lt here = absurd (omega arith)
      fit_there whole (first ∷ parts) zero part fit lt here = subst (λ (p : Part). p.header.body_start ≤ length p.raw) (sym here) fit.0.header
      fit_there whole (first ∷ parts) (suc place) part fit lt here = fit_there whole parts place part fit.1 (omega arith) here
