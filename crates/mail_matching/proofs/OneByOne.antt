-- Keys of `:contains` that are looked for one after another.
use Rattle.std.proofs.Common.{◌≡◌, ℕ, suc, ◌+◌, ◌<◌, Bool, true, false, List, [], ◌∷◌, drop, get_or, length, Option, None, Some, refl, sym, ap, ◌∙◌, add-one, drop-cons, if◌then◌else◌}
use Rattle.std.specs.Option.{option_or}
use Rattle.glob_match.specs.Containment.{contains_match}
use Rattle.glob_match.specs.declared.comparator.Comparator.{Comparator}
use Rattle.mail_matching.specs.Findings.{key_of}
use Rattle.mail_matching.specs.FirstMatch.{first_key}
use Rattle.mail_matching.specs.Private.{containing}

or_this : {A : Type 0} (holds : Bool) (x : A) (others : Option A) → holds ≡ true → option_or (if holds then Some x else None) others ≡ Some x
or_this true x others is = refl
or_this false x others is = cc

or_others : {A : Type 0} (holds : Bool) (x : A) (others : Option A) → holds ≡ false → option_or (if holds then Some x else None) others ≡ others
or_others true x others is = cc
or_others false x others is = refl

else_others : {A : Type 0} (holds : Bool) (x others : Option A) → holds ≡ false → (if holds then x else others) ≡ others
else_others true x others is = cc
else_others false x others is = refl

-- the key at a place is contained, or it isn't
module _ (comparator : Comparator) (value : List ℕ) (keys : List (List ℕ)) (place : ℕ) (key : List ℕ) (within : place < length keys) (at : key ≡ get_or keys place []) where
  from_here : drop place keys ≡ key ∷ drop (place + 1) keys
  from_here = rw add-one (drop-cons keys place [] within ∙ ap (λ k. k ∷ drop (suc place) keys) (sym at))

  pub this_key : (captures : List (List ℕ)) → contains_match comparator value key ≡ true → first_key (containing comparator) value (drop place keys) captures ≡ Some captures
  this_key captures holds =
      ap (λ ks. first_key (containing comparator) value ks captures) from_here
      ∙ or_this (contains_match comparator value key) captures (first_key (containing comparator) value (drop (place + 1) keys) captures) holds

  pub later_keys : (captures : List (List ℕ)) (found : Option (List (List ℕ))) → contains_match comparator value key ≡ false
      → first_key (containing comparator) value (drop place keys) captures ≡ found → first_key (containing comparator) value (drop (place + 1) keys) captures ≡ found
  later_keys captures found fails here =
      sym (or_others (contains_match comparator value key) captures (first_key (containing comparator) value (drop (place + 1) keys) captures) fails)
      ∙ ap (λ ks. first_key (containing comparator) value ks captures) (sym from_here) ∙ here

  pub later_found : (found : Option (List ℕ)) → contains_match comparator value key ≡ false
      → key_of (containing comparator) value (drop place keys) ≡ found → key_of (containing comparator) value (drop (place + 1) keys) ≡ found
  later_found found fails here =
      sym (else_others (contains_match comparator value key) (Some key) (key_of (containing comparator) value (drop (place + 1) keys)) fails)
      ∙ ap (λ ks. key_of (containing comparator) value ks) (sym from_here) ∙ here
