-- Tests that set no captures.
use Rattle.std.proofs.Common.{◌≡◌, ◌⊎◌, ℕ, ◌+◌, ◌-◌, ◌<◌, Bool, true, false, if◌then◌else◌, List, [], ◌∷◌, length, take, drop, replicate, get_or, Option, None, Some, inl, inr, refl, sym, ◌∙◌, ap, arith}
use Rattle.std.specs.Option.{option_or}
use Rattle.std.proofs.lemmas.List.{drop_more, take-append-drop, length-append, length-replicate}
use Rattle.glob_match.specs.Comparison.{is_match}
use Rattle.glob_match.specs.Matching.{max_captures}
use Rattle.glob_match.specs.declared.comparator.Comparator.TheVariants.{Octet}
use Rattle.glob_match.specs.declared.match_type.Match.{Match}
use Rattle.mail_matching.specs.FirstMatch.{KeepsCaptures, first_key, first_match, ten_of}
use Rattle.mail_matching.specs.Outcomes.{after, holds}
use Rattle.mail_matching.specs.PartTests.{exactly}
use Rattle.mail_matching.specs.declared.outcome.Outcome.{Outcome}
use Rattle.mail_matching.proofs.Onward.{fails, first_match-append}

ten_some : (set : List (List ℕ)) → ten_of set ≡ [] → ⊥
ten_some set none =
    let long = length-append set (replicate (max_captures - length set) []) in
    let more = length-replicate {A = List ℕ} (max_captures - length set) [] in
    absurd (omega (arith, ap length none, long, more))

-- one that sets captures is none of them
pub sets_none : (test : List (List ℕ) → Option (List (List ℕ))) (set : List (List ℕ)) → KeepsCaptures test
    → ((captures : List (List ℕ)) → Some (ten_of set) ≡ test captures) → ⊥
sets_none test set keeps sets = elim (keeps []) [
  | inl none ↦ let e = sets [] ∙ none in absurd (cc)
  | inr same ↦ let e = sets [] ∙ same in ten_some set cc
]

equal_or_none : (b : Bool) (o : Option (List (List ℕ))) (captures : List (List ℕ)) → (o ≡ None) ⊎ (o ≡ Some captures)
    → (option_or (if b then Some captures else None) o ≡ None) ⊎ (option_or (if b then Some captures else None) o ≡ Some captures)
equal_or_none true o captures kept = inr refl
equal_or_none false o captures kept = kept

-- equality sets none
pub equals_keep : (value : List ℕ) (keys : List (List ℕ)) → KeepsCaptures (first_key exactly value keys)
equals_keep value [] captures = inl refl
equals_keep value (key ∷ keys) captures = equal_or_none (is_match Octet value key) (first_key exactly value keys captures) captures (equals_keep value keys captures)

-- the former of two, of which the latter is asked where it fails
former : (o p whole : Option (List (List ℕ))) (captures : List (List ℕ)) → option_or o p ≡ whole → (whole ≡ None) ⊎ (whole ≡ Some captures) → (o ≡ None) ⊎ (o ≡ Some captures)
former None p whole captures e kept = inl refl
former (Some set) p whole captures e (inl none) = absurd (cc)
former (Some set) p whole captures e (inr same) = inr (e ∙ same)

pub keeps_first : (how : Match) (value : List ℕ) (values keys : List (List ℕ)) → KeepsCaptures (first_match how (value ∷ values) keys) → KeepsCaptures (first_key how value keys)
keeps_first how value values keys keeps = λ captures.
    former (first_key how value keys captures) (first_match how values keys captures) (first_match how (value ∷ values) keys captures) captures refl (keeps captures)

-- the value after those that have missed
pub keeps_next : (how : Match) (values keys : List (List ℕ)) (place : ℕ) (value : List ℕ) (outcome : Outcome) → place < length values → value ≡ get_or values place []
    → ((captures : List (List ℕ)) → after outcome captures ≡ first_match how (take place values) keys captures) → holds outcome ≡ false
    → KeepsCaptures (first_match how values keys) → KeepsCaptures (first_key how value keys)
keeps_next how values keys place value outcome lt is comes missed keeps = λ captures.
    let at : drop place values ≡ value ∷ drop (place + 1) values = drop_more values place [] lt ∙ ap (λ v. v ∷ drop (place + 1) values) (sym is) in
    let whole : first_match how values keys captures ≡ first_match how (value ∷ drop (place + 1) values) keys captures =
    ap (λ vs. first_match how vs keys captures) (sym (take-append-drop place values))
    ∙ first_match-append how (take place values) (drop place values) keys captures
    ∙ ap (λ o. option_or o (first_match how (drop place values) keys captures)) (sym (comes captures) ∙ ap (λ o. after o captures) (fails outcome missed))
    ∙ ap (λ vs. first_match how vs keys captures) at in
    former (first_key how value keys captures) (first_match how (drop (place + 1) values) keys captures) (first_match how values keys captures) captures (sym whole) (keeps captures)
