-- What was asked was answered.
use Rattle.std.proofs.Common.{◌≡◌, ℕ, ◌+◌, ◌*◌, ◌<◌, ◌^◌, ◌⊎◌, inl, inr, true, false, List, [], ◌∷◌, length, Option, None, Some, IfSome, refl, sym, ◌∙◌, ap, subst, arith}
use Rattle.std.specs.Prelude.{Bool, Result, Ok, Err, IfOk, is_some, option_map}
use Rattle.std.specs.Bool.{then_some}
use Rattle.std.specs.Cow.{IsBorrowedSlice, cow_slice_items}
use Rattle.std.specs.Option.{option_or}
use Rattle.glob_match.specs.declared.match_type.Match.{Match}
use Rattle.mime_decode.specs.Mail.{Part}
use Rattle.mail_matching.specs.Costs.{extent_of}
use Rattle.mail_matching.specs.Findings.{Pair, finding_from, finding_of, first_pair, shortened}
use Rattle.mail_matching.specs.FirstMatch.{KeepsCaptures, first_match}
use Rattle.mail_matching.specs.Outcomes.{HasAsked, IsFew, IsFresh, after, holds}
use Rattle.mail_matching.specs.Private.{GoesOn, IsCounted, counted}
use Rattle.mail_matching.specs.Questions.{Asked, IsLent, IsShown, answered, compares, decides, of_part}
use Rattle.mail_matching.specs.declared.finding.Finding.{Finding}
use Rattle.mail_matching.specs.declared.finding.Finding.TheVariants.{Pair as Matched, NoneOf}
use Rattle.mail_matching.specs.declared.finding.Found.{Found}
use Rattle.mail_matching.specs.declared.progress.Progress.{Progress}
use Rattle.mail_matching.specs.declared.questions.Need.TheVariants as need
use Rattle.mail_matching.specs.declared.questions.Shown.{Shown}
use Rattle.mail_matching.specs.declared.questions.Shown.TheVariants as shown
use Rattle.mail_matching.proofs.Extents.{values_cost-product}
use Rattle.mail_matching.proofs.Pairs.{none_further, values_few}

from_few : (number : ℕ) (found : Option Pair) → number < 2 ^ 64 → IsFew (finding_from number found)
from_few number None few = few
from_few number (Some p) few = tt

-- from values that were taken one after the other
pub has_compared : {T : Type 0} (knows : ℕ → T → Finding → Type 0) (how : Match) (values keys : List (List ℕ)) (looked : ℕ) (old new : Progress T) (extent compared charge : ℕ) → IsFresh old → GoesOn knows how values keys old new → extent_of values < 2 ^ 64
    → extent ≡ extent_of keys → compared ≡ new.extent * extent → charge ≡ looked + compared → HasAsked knows (compares how values) keys looked old new charge
has_compared knows how values keys looked old new extent compared charge fresh goes few is product at = record {
  outcome = λ captures. goes.outcome captures ∙ ap (λ o. option_or (after o captures) (first_match how values keys captures)) fresh.0;
  cost = at ∙ ap (λ n. looked + n) (product ∙ ap (λ n. n * extent) taken ∙ ap (λ n. extent_of values * n) is ∙ sym (values_cost-product values keys));
  found = λ most known.
      let stands = goes.found most (NoneOf 0) (record { holds = ap holds fresh.0; known = known }) in
      subst (knows most new.told) (none_further (finding_of how values keys)) stands.known;
  few = from_few (length values) (first_pair how values keys) (omega (arith, few, values_few values));
}
  where
    taken : new.extent ≡ extent_of values
    taken = omega (arith, goes.extent, fresh.1)

-- where there is no current part, nothing is compared
pub no_content : (asks : Part → Asked) (part : Option Part) (known : Shown) → ((content : _) → known ≡ shown.Content content → ⊥) → IsShown need.Content part known → of_part asks part ≡ decides false
no_content asks None known other is = refl
no_content asks (Some part) (shown.Content content) other is = absurd (other content refl)
no_content asks (Some part) _ other is = absurd is

pub no_digest : (asks : Part → Asked) (part : Option Part) (known : Shown) → ((digest : _) → known ≡ shown.Digest digest → ⊥) → IsShown need.Digest part known → of_part asks part ≡ decides false
no_digest asks None known other is = refl
no_digest asks (Some part) (shown.Digest digest) other is = absurd (other digest refl)
no_digest asks (Some part) _ other is = absurd is

-- content of which nothing is captured, or that is lent
pub content_takes : (how : Match) (keys : List (List ℕ)) (part : Option Part) (known : Shown) (content : _) → known ≡ shown.Content content → IsShown need.Content part known
    → KeepsCaptures (answered (of_part (λ (p : Part). compares how (p.content ∷ [])) part) keys) ⊎ IsLent known
    → KeepsCaptures (first_match how (cow_slice_items content.now ∷ []) keys) ⊎ IsBorrowedSlice content.now
content_takes how keys part known content same is takes = go part (subst (IsShown need.Content part) same is) (subst (λ k. KeepsCaptures (answered (of_part (λ (p : Part). compares how (p.content ∷ [])) part) keys) ⊎ IsLent k) same takes)
  where
    go : (at : Option Part) → IsShown need.Content at (shown.Content content) → KeepsCaptures (answered (of_part (λ (p : Part). compares how (p.content ∷ [])) at) keys) ⊎ IsLent (shown.Content content)
        → KeepsCaptures (first_match how (cow_slice_items content.now ∷ []) keys) ⊎ IsBorrowedSlice content.now
    go None h t = absurd cc
    go (Some p) h t =
        elim t [
          | inl keeps ↦ inl (subst (λ (x : List ℕ). KeepsCaptures (first_match how (x ∷ []) keys)) (sym h.0) keeps)
          | inr lent ↦ inr lent
        ]

-- what is kept of a finding that is few enough is all of it
few_kept : (most : ℕ) (finding : Finding) → IsFew finding → counted (shortened most finding) ≡ shortened most finding
few_kept most (Matched value key) few = refl
few_kept most (NoneOf number) few = ap NoneOf (omega (arith, few))

-- what was found, if values were compared with keys
pub found_so : (most : ℕ) (finding : Option Finding) (found : Found) (compares : Bool) → is_some finding ≡ compares → IfSome finding (λ f. IsCounted most f found) → IfSome finding IsFew → then_some compares found.finding ≡ option_map (shortened most) finding
found_so most None found false so kept few = refl
found_so most None found true so kept few = absurd (cc)
found_so most (Some finding) found false so kept few = absurd (cc)
found_so most (Some finding) found true so kept few = ap Some (kept.kept ∙ few_kept most finding few)

-- the same in other words
pub asked_so : {T : Type 0} (knows : ℕ → T → Finding → Type 0) (asked so : Asked) (keys : List (List ℕ)) (looked cost : ℕ) (old new : Progress T) (charge : ℕ) → asked ≡ so → looked ≡ cost → HasAsked knows asked keys looked old new charge → HasAsked knows so keys cost old new charge
asked_so knows asked so keys looked cost old new charge same costs has =
    subst (λ a. HasAsked knows a keys cost old new charge) same (subst (λ n. HasAsked knows asked keys n old new charge) costs has)

pub if_ok_so : {T E : Type 0} (r : Result T E) (P Q : T → Type 0) → IfOk r P → ((x : T) → P x → Q x) → IfOk r Q
if_ok_so (Ok x) P Q is so = so x is
if_ok_so (Err e) P Q is so = is
