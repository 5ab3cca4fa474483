-- What is lacking and what is no capability, one after another.
use Rattle.std.proofs.Common.{◌≡◌, ℕ, ◌+◌, ◌<◌, not, false, List, [], ◌∷◌, ◌++◌, map, filter, drop, length, get_or, refl, sym, ap, ◌∙◌, add-one, inl, inr}
use Rattle.std.specs.Option.{option_or}
use Rattle.std.proofs.Math.Seq.{drop-cons}
use Rattle.std.proofs.lemmas.Bool.{cases_Bool}
use Rattle.std.proofs.lemmas.List.{map-append}
use Rattle.std.proofs.lemmas.List.Elements.{filter-append}
use Rattle.sieve_check.specs.declared.causes.ReasonKind.TheVariants.{UnknownCapability}
use Rattle.sieve_check.specs.declared.names.Capability.{Capability}
use Rattle.sieve_check.specs.declared.string_flaws.StringFlaw.TheVariants.{Unknown}
use Rattle.sieve_check.specs.declared.surroundings.Capabilities.{Capabilities}
use Rattle.sieve_check.specs.Causes.{about, refused_for}
use Rattle.sieve_check.specs.Rules.{lacking, lacking_cause, lacking_causes, string_has, unknown_causes}
use Rattle.sieve_check.specs.Surroundings.{has_capability}

pub lacking_both : (required : Capabilities) (xs ys : List Capability) → lacking_causes required (xs ++ ys) ≡ lacking_causes required xs ++ lacking_causes required ys
lacking_both required xs ys =
    let lacks = λ (c : Capability). not (has_capability c required) in
    ap (map lacking) (filter-append lacks xs ys) ∙ map-append lacking (filter lacks xs) (filter lacks ys)

unknown_both : (xs ys : List (List ℕ)) → unknown_causes (xs ++ ys) ≡ unknown_causes xs ++ unknown_causes ys
unknown_both xs ys = ap (map (about UnknownCapability)) (filter-append (string_has Unknown) xs ys) ∙ map-append (about UnknownCapability) (filter (string_has Unknown) xs) (filter (string_has Unknown) ys)

-- the first that is lacking of both
pub first_of_both : (required : Capabilities) (xs ys : List Capability) → lacking_cause required (xs ++ ys) ≡ option_or (lacking_cause required xs) (lacking_cause required ys)
first_of_both required [] ys = refl
first_of_both required (x ∷ xs) ys = elim (cases_Bool (has_capability x required)) [ inl has ↦ rw has (first_of_both required xs ys) | inr lacks ↦ rw lacks refl ]

-- a string that is a capability
pub none_unknown : (s : List ℕ) → string_has Unknown s ≡ false → unknown_causes (s ∷ []) ≡ []
none_unknown s e = rw e refl

module _ (token : ℕ) (name : List ℕ) where
  pub unknown_then : (xs ys : List (List ℕ)) → map (refused_for token name) (unknown_causes (xs ++ ys)) ≡ map (refused_for token name) (unknown_causes xs) ++ map (refused_for token name) (unknown_causes ys)
  unknown_then xs ys = ap (map (refused_for token name)) (unknown_both xs ys) ∙ map-append (refused_for token name) (unknown_causes xs) (unknown_causes ys)

  -- from an index on
  pub lacking_next : (required : Capabilities) (list : List Capability) (i : ℕ) (other : Capability) → i < length list
      → map (refused_for token name) (lacking_causes required (drop i list)) ≡ map (refused_for token name) (lacking_causes required (get_or list i other ∷ [])) ++ map (refused_for token name) (lacking_causes required (drop (i + 1) list))
  lacking_next required list i other lt =
      let x = get_or list i other in
      ap (λ xs. map (refused_for token name) (lacking_causes required xs)) (drop-cons list i other lt ∙ ap (λ n. x ∷ drop n list) (sym (add-one i)))
      ∙ ap (map (refused_for token name)) (lacking_both required (x ∷ []) (drop (i + 1) list))
      ∙ map-append (refused_for token name) (lacking_causes required (x ∷ [])) (lacking_causes required (drop (i + 1) list))
