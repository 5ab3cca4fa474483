-- The captures, as a function and as a relation.
use Rattle.std.proofs.Common.{◌≡◌, ℕ, List, Some, None, refl, sym, ap, ◌∙◌}
use Rattle.std.specs.Option.{option_map}
use Rattle.glob_match.specs.declared.comparator.Comparator.{Comparator}
use Rattle.glob_match.specs.Tokens.{tokens_of}
use Rattle.glob_match.specs.Matching.{Captured, captures_of, least_fit, match_of}
use Rattle.glob_match.proofs.Least.{least_from, least_once, some_least}

module _ (comparator : Comparator) (value key : List ℕ) where
  pub captured_from : (captures : List (List ℕ)) → match_of comparator value key ≡ Some captures → Captured comparator value key captures
  captured_from captures e =
      elim (least_fit comparator (tokens_of key) value)
      as (λ o. least_fit comparator (tokens_of key) value ≡ o → option_map (captures_of value) o ≡ Some captures → Captured comparator value key captures) [
        | None ↦ λ is none. cc
        | Some stretches ↦ λ is some. (stretches, least_from comparator (tokens_of key) value stretches is, cc)
      ] refl e

  pub captured_since : (captures : List (List ℕ)) → Captured comparator value key captures → match_of comparator value key ≡ Some captures
  captured_since captures (stretches, least, e) =
      ap (option_map (captures_of value)) (some_least comparator (tokens_of key) value stretches least) ∙ ap Some (sym e)

  pub captured_once : (captures others : List (List ℕ)) → Captured comparator value key captures → Captured comparator value key others → captures ≡ others
  captured_once captures others (stretches, least, e) (stretches', least', e') =
      e ∙ ap (captures_of value) (least_once comparator (tokens_of key) value stretches stretches' least least') ∙ sym e'
