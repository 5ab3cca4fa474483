-- Captures stay ten, and none grows longer than a capture may be.
use Rattle.std.proofs.Common.{◌≡◌, ℕ, zero, suc, ◌-◌, ◌≤◌, List, [], ◌∷◌, Bool, true, false, All, length, map, take, replicate, Option, None, Some, IfSome, option_map, if◌then◌else◌, subst, arith, length-append, length-take}
use Rattle.std.specs.Option.{option_or}
use Rattle.std.proofs.lemmas.List.{length-map, length-replicate}
use Rattle.std.proofs.lemmas.List.Elements.{All-nil, All-cons, All-append}
use Rattle.glob_match.specs.Matching.{captures_of, least_fit, max_capture, max_captures}
use Rattle.glob_match.specs.Tokens.{tokens_of}
use Rattle.glob_match.specs.Comparison.{is_match}
use Rattle.glob_match.specs.Containment.{contains_match}
use Rattle.glob_match.specs.declared.comparator.Comparator.{Comparator}
use Rattle.glob_match.specs.declared.match_type.Match.{Match}
use Rattle.glob_match.specs.declared.match_type.MatchType.{MatchType}
use Rattle.glob_match.specs.declared.match_type.MatchType.TheVariants.{Is, Contains, Matches}
use Rattle.mail_matching.specs.FirstMatch.{after_comparison, first_key, first_match, ten_of}

-- what holds of captures that a match sets holds of those after each test
module _ (P : List (List ℕ) → Type 0) (sets : (value : List ℕ) (stretches : List (List ℕ)) → P (ten_of (captures_of value stretches))) where
  either : (a b : Option (List (List ℕ))) → IfSome a P → IfSome b P → IfSome (option_or a b) P
  either None b first second = second
  either (Some x) b first second = first

  kept_if : (b : Bool) (captures : List (List ℕ)) → P captures → IfSome (if b then Some captures else None) P
  kept_if true captures are = are
  kept_if false captures are = tt

  set_of : (value : List ℕ) (fit : Option (List (List ℕ))) → IfSome (option_map ten_of (option_map (captures_of value) fit)) P
  set_of value None = tt
  set_of value (Some stretches) = sets value stretches

  after_one : (kind : MatchType) (comparator : Comparator) (value key : List ℕ) (captures : List (List ℕ)) → P captures → IfSome (after_comparison kind comparator value key captures) P
  after_one Is comparator value key captures are = kept_if (is_match comparator value key) captures are
  after_one Contains comparator value key captures are = kept_if (contains_match comparator value key) captures are
  after_one Matches comparator value key captures are = set_of value (least_fit comparator (tokens_of key) value)

  after_keys : (how : Match) (value : List ℕ) (keys captures : List (List ℕ)) → P captures → IfSome (first_key how value keys captures) P
  after_keys how value [] captures are = tt
  after_keys how value (key ∷ keys) captures are = either _ _ (after_one how.kind how.comparator value key captures are) (after_keys how value keys captures are)

  after_values : (how : Match) (values keys captures : List (List ℕ)) → P captures → IfSome (first_match how values keys captures) P
  after_values how [] keys captures are = tt
  after_values how (value ∷ values) keys captures are = either _ _ (after_keys how value keys captures are) (after_values how values keys captures are)

  stay : (how : Match) (values keys captures after : List (List ℕ)) → P captures → first_match how values keys captures ≡ Some after → P after
  stay how values keys captures after are is = subst (λ o. IfSome o P) is (after_values how values keys captures are)

-- ---- ten

abbrev AreTen : List (List ℕ) → Type 0
AreTen captures = length captures ≡ max_captures

ten : (captures : List (List ℕ)) → length captures ≤ max_captures → AreTen (ten_of captures)
ten captures few =
    omega (arith, few, length-append captures (replicate (max_captures - length captures) []), length-replicate {A = List ℕ} (max_captures - length captures) [])

few_captures : (value : List ℕ) (stretches : List (List ℕ)) → length (captures_of value stretches) ≤ max_captures
few_captures value stretches =
    omega (arith, length-map (take max_captures (value ∷ stretches)) (take max_capture), length-take max_captures (value ∷ stretches))

pub stay_ten : (how : Match) (values keys captures after : List (List ℕ)) → length captures ≡ max_captures → first_match how values keys captures ≡ Some after → length after ≡ max_captures
stay_ten = stay AreTen (λ value stretches. ten (captures_of value stretches) (few_captures value stretches))

-- ---- each within its length

abbrev IsCapture : List ℕ → Type 0
IsCapture capture = length capture ≤ max_capture

abbrev AreShort : List (List ℕ) → Type 0
AreShort captures = All IsCapture captures

cut_short : (texts : List (List ℕ)) → AreShort (map (take max_capture) texts)
cut_short [] = All-nil IsCapture
cut_short (text ∷ texts) = All-cons IsCapture (take max_capture text) (map (take max_capture) texts) (omega (arith, length-take max_capture text)) (cut_short texts)

empty_short : (n : ℕ) → AreShort (replicate n [])
empty_short zero = All-nil IsCapture
empty_short (suc n) = All-cons IsCapture [] (replicate n []) (omega arith) (empty_short n)

pub stay_short : (how : Match) (values keys captures after : List (List ℕ)) → All (λ capture. length capture ≤ max_capture) captures → first_match how values keys captures ≡ Some after → All (λ capture. length capture ≤ max_capture) after
stay_short =
    stay AreShort (λ value stretches. All-append IsCapture (captures_of value stretches) _ (cut_short (take max_captures (value ∷ stretches))) (empty_short (max_captures - length (captures_of value stretches))))
