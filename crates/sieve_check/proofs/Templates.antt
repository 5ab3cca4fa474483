-- The strings of a script as they are meant, whether variables were required or not.
use Rattle.std.proofs.Common.{◌≡◌, ℕ, ◌+◌, ◌≤◌, Bool, true, false, if◌then◌else◌, List, [], ◌∷◌, ◌++◌, length, map, All, refl, ap, ◌∙◌, arith, length-append}
use Rattle.std.specs.Prelude.{flat_map, sum_by}
use Rattle.std.proofs.lemmas.List.{append-nil, length-map}
use Rattle.std.proofs.lemmas.List.Elements.{All-nil, All-cons, All-head, All-tail}
use Rattle.std.proofs.lemmas.List.Sums.{sum_by-append, sum_by-cons}
use Rattle.std.specs.Char.{to_ascii_lowercase}
use Rattle.octets.specs.Ascii.{lowercase_of}
use Rattle.octets.specs.Limits.{max_segments, max_string}
use Rattle.sieve_references.specs.References as references
use Rattle.sieve_references.specs.References.{stretch, variable, capture, beyond, foreign, segments, names_of, names_in, extent_of, last_capture}
use Rattle.sieve_references.specs.WellFormed.{IsWellFormed}
use Rattle.sieve_references.proofs.Extents.{together, each}
use Rattle.sieve_references.proofs.Stretches.{all_formed}
use Rattle.sieve_check.specs.declared.typed.Segment.TheVariants.{Text, Variable, Capture}
use Rattle.sieve_check.specs.Bounded.{IsBoundedSegment, IsBoundedString}
use Rattle.sieve_check.specs.Extent.{segment_extent, string_extent, strings_extent}
use Rattle.sieve_check.specs.FormOf.{meant}
use Rattle.sieve_check.specs.Rules.{Mentions, no_mention, expanding, names_mentioned}
use Rattle.sieve_check.specs.Typed.{Template}
use Rattle.sieve_check.specs.Variables.{segment_variables, string_variables, strings_variables}

-- ---- segments as they are meant

meant_few : (p : references.Segment) → length (meant p) ≤ 1
meant_few (stretch octets) = omega arith
meant_few _ = omega arith

all_few : (ps : List references.Segment) → length (flat_map meant ps) ≤ length ps
all_few [] = omega arith
all_few (p ∷ ps) = omega (arith, meant_few p, all_few ps, length-append (meant p) (flat_map meant ps))

meant_fits : (p : references.Segment) → sum_by segment_extent (meant p) ≤ extent_of p
meant_fits (variable name) = omega (arith, length-map name to_ascii_lowercase)
meant_fits _ = omega arith

all_fit : (ps : List references.Segment) → sum_by segment_extent (flat_map meant ps) ≤ sum_by extent_of ps
all_fit [] = omega arith
all_fit (p ∷ ps) = omega (arith, meant_fits p, all_fit ps, sum_by-append segment_extent (meant p) (flat_map meant ps), sum_by-cons extent_of p ps)

meant_written : (p : references.Segment) → IsWellFormed p → length (meant p) ≤ sum_by segment_extent (meant p)
meant_written (stretch octets) formed = omega (arith, formed)
meant_written _ formed = omega arith

all_written : (ps : List references.Segment) → All IsWellFormed ps → length (flat_map meant ps) ≤ sum_by segment_extent (flat_map meant ps)
all_written [] formed = omega arith
all_written (p ∷ ps) formed = omega (
  arith,
  meant_written p (All-head IsWellFormed p ps formed),
  all_written ps (All-tail IsWellFormed p ps formed),
  length-append (meant p) (flat_map meant ps),
  sum_by-append segment_extent (meant p) (flat_map meant ps),
)

same_names : (ps : List references.Segment) → flat_map segment_variables (flat_map meant ps) ≡ flat_map names_of ps
same_names [] = refl
same_names (variable name ∷ ps) = ap (λ names. lowercase_of name ∷ names) (same_names ps)
same_names (_ ∷ ps) = same_names ps

all_bounded : (most : ℕ) → most ≤ max_string → (ps : List references.Segment) → All (λ p. extent_of p ≤ most) ps → All IsWellFormed ps → All IsBoundedSegment (flat_map meant ps)
all_bounded most short [] fit formed = All-nil IsBoundedSegment
all_bounded most short (p ∷ ps) fit formed =
    with p (All-head (λ p. extent_of p ≤ most) p ps fit) (All-head IsWellFormed p ps formed) (all_bounded most short ps (All-tail (λ p. extent_of p ≤ most) p ps fit) (All-tail IsWellFormed p ps formed))
  where
    with : (p : references.Segment) → extent_of p ≤ most → IsWellFormed p → All IsBoundedSegment (flat_map meant ps) → All IsBoundedSegment (meant p ++ flat_map meant ps)
    with (stretch octets) fits well others = All-cons IsBoundedSegment (Text octets) (flat_map meant ps) (omega (arith, fits, short)) others
    with (variable name) fits well others = All-cons IsBoundedSegment (Variable (lowercase_of name)) (flat_map meant ps) tt others
    with (capture n) fits well others = All-cons IsBoundedSegment (Capture n) (flat_map meant ps) well others
    with _ fits well others = others

-- ---- strings: b says whether variables were required

abbrev pub template_at : Bool → List ℕ → Template
template_at b x = if b then flat_map meant (segments x) else Text x ∷ []

abbrev pub names_at : Bool → List ℕ → List (List ℕ)
names_at b x = if b then names_in x else []

-- the string is within the limits
pub record IsSound (b : Bool) (x : List ℕ) : Type 0 where
  pub short : length x ≤ max_string
  pub few : b ≡ true → length (segments x) ≤ max_segments

pub template_bounded : (b : Bool) (x : List ℕ) → IsSound b x → IsBoundedString (template_at b x)
template_bounded true x sound = record { few = omega (arith, all_few (segments x), sound.few refl); written = omega (arith, all_written (segments x) (all_formed x)); segments = all_bounded (length x) sound.short (segments x) (each x) (all_formed x) }
template_bounded false x sound = record { few = omega arith; written = omega arith; segments = All-cons IsBoundedSegment (Text x) [] sound.short (All-nil IsBoundedSegment) }

pub template_fits : (b : Bool) (x : List ℕ) → string_extent (template_at b x) ≤ 2 + length x
template_fits true x = omega (arith, all_fit (segments x), together x)
template_fits false x = omega arith

pub template_names : (b : Bool) (x : List ℕ) → string_variables (template_at b x) ≡ names_at b x
template_names true x = same_names (segments x)
template_names false x = refl

pub templates_bounded : (b : Bool) (xs : List (List ℕ)) → All (IsSound b) xs → All IsBoundedString (map (template_at b) xs)
templates_bounded b [] sound = All-nil IsBoundedString
templates_bounded b (x ∷ xs) sound =
    All-cons IsBoundedString (template_at b x) (map (template_at b) xs) (template_bounded b x (All-head (IsSound b) x xs sound)) (templates_bounded b xs (All-tail (IsSound b) x xs sound))

-- how many octets strings are written with, at least
abbrev pub written : List (List ℕ) → ℕ
written [] = 0
written (x ∷ xs) = 2 + length x + written xs

pub templates_fit : (b : Bool) (xs : List (List ℕ)) → strings_extent (map (template_at b) xs) ≤ written xs
templates_fit b [] = omega arith
templates_fit b (x ∷ xs) = omega (arith, template_fits b x, templates_fit b xs, sum_by-cons string_extent (template_at b x) (map (template_at b) xs))

pub templates_names : (b : Bool) (xs : List (List ℕ)) → strings_variables (map (template_at b) xs) ≡ flat_map (names_at b) xs
templates_names b [] = refl
templates_names b (x ∷ xs) = ap (λ names. names ++ strings_variables (map (template_at b) xs)) (template_names b x) ∙ ap (λ names. names_at b x ++ names) (templates_names b xs)

-- ---- what is mentioned

abbrev pub mentioned_at : Bool → Mentions → List (List ℕ)
mentioned_at b mentions = names_mentioned (if b then mentions else no_mention)

none_named : (xs : List (List ℕ)) → [] ≡ flat_map (names_at false) xs
none_named [] = refl
none_named (x ∷ xs) = none_named xs

pub expanding_names : (b : Bool) (xs : List (List ℕ)) → mentioned_at b (expanding xs) ≡ flat_map (names_at b) xs
expanding_names true xs = append-nil (flat_map names_in xs)
expanding_names false xs = none_named xs

pub nothing_mentioned : (b : Bool) → mentioned_at b no_mention ≡ []
nothing_mentioned true = refl
nothing_mentioned false = refl
