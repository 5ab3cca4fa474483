-- The place of a number, by halving; and the volume at that place.
use Rattle.std.proofs.Common.{◌≡◌, ℕ, zero, suc, ◌+◌, ◌*◌, ◌^◌, ◌<◌, ◌≤◌, List, [], ◌∷◌, length, slice_index, refl, ap, ◌∙◌, arith}
use Rattle.std.proofs.Math.Nat.{mul-le-mul, mul_assoc, pow-suc}
use Rattle.part_store.specs.Entries.{Entries, no_entries}
use Rattle.part_store.specs.Standing.{HasNone}
use Rattle.volumes.specs.Places.{AsksFew, IsFirstAt, IsPlaceAmong, IsPlaceOf, NeverFall, lasts_of}
use Rattle.volumes.specs.Volumes.{AreVolumes, ComeAfter, newest_after, whole}
use Rattle.volumes.proofs.Whole.{none_beyond}

-- ---- halving

-- the place is in a stretch of the first so many: all numbers before it are smaller, and none from its end on is
pub record IsBetween (count number : ℕ) (numbers : List ℕ) (low high : ℕ) : Type 0 where
  pub order : low ≤ high
  pub within : high ≤ count
  pub smaller : (i : ℕ) → i < low → slice_index numbers i < number
  pub enough : (i : ℕ) → high ≤ i → i < count → number ≤ slice_index numbers i

pub between_all : (count number : ℕ) (numbers : List ℕ) → IsBetween count number numbers 0 count
between_all count number numbers = record {
  order = omega arith;
  within = omega arith;
  smaller = λ i lt. absurd (omega (arith, lt));
  enough = λ i ge lt. absurd (omega (arith, ge, lt));
}

module _ (count number : ℕ) (numbers : List ℕ) (ordered : NeverFall numbers) (there : count ≤ length numbers) (low middle high : ℕ) (between : IsBetween count number numbers low high) (above : low ≤ middle) (below : middle < high) where
  pub later_half : slice_index numbers middle < number → IsBetween count number numbers (middle + 1) high
  later_half less = record {
    order = omega (arith, below);
    within = between.within;
    smaller = λ i before. omega (arith, ordered i middle (omega (arith, before)) (omega (arith, below, between.within, there)), less);
    enough = between.enough;
  }

  pub earlier_half : number ≤ slice_index numbers middle → IsBetween count number numbers low middle
  earlier_half more = record {
    order = above;
    within = omega (arith, below, between.within);
    smaller = between.smaller;
    enough = λ i from within. omega (arith, ordered middle i from (omega (arith, within, there)), more);
  }

pub place_found : (count number : ℕ) (numbers : List ℕ) (low high : ℕ) → IsBetween count number numbers low high → high ≤ low → IsPlaceAmong count number numbers low
place_found count number numbers low high between le = record {
  within = omega (arith, between.order, between.within);
  smaller = between.smaller;
  enough = λ lt. between.enough low le lt;
}

-- ---- the questions

-- so many questions leave a stretch so short
pub record HasHalved (count width old new : ℕ) : Type 0 where
  pub questions : ℕ
  pub asked : new ≤ old + questions
  pub short : 2 ^ questions * width ≤ count
  pub few : 2 ^ questions ≤ 2 * count + 1

pub none_asked : (count old : ℕ) → HasHalved count count old old
none_asked count old = record { questions = 0; asked = omega arith; short = omega arith; few = omega arith }

pub half_asked : (count width half old mid new : ℕ) → HasHalved count width old mid → 0 < width → 2 * half ≤ width → new ≤ mid + 1 → HasHalved count half old new
half_asked count width half old mid new halved wide le one =
    let power = 2 ^ halved.questions in
    let same : power ≤ power = omega arith in
    let double : 2 ^ suc halved.questions ≡ power * 2 = pow-suc 2 halved.questions in
    let twice : 2 ^ suc halved.questions * half ≡ power * (2 * half) = ap (λ n. n * half) double ∙ mul_assoc power 2 half in
    let shorter : power * (2 * half) ≤ power * width = mul-le-mul same le in
    let wider : power * 1 ≤ power * width = mul-le-mul same wide in
    record {
      questions = suc halved.questions;
      asked = omega (arith, halved.asked, one);
      short = omega (arith, twice, shorter, halved.short);
      few = omega (arith, double, wider, halved.short);
    }

pub few_asked : (count width old new : ℕ) → HasHalved count width old new → AsksFew count old new
few_asked count width old new halved = (halved.questions, halved.asked, halved.few)

-- ---- the volume at the place

pub lasts_long : (user : List ℕ) (vs : List Entries) → length (lasts_of user vs) ≡ length vs
lasts_long user [] = refl
lasts_long user (v ∷ vs) = ap suc (lasts_long user vs)

above_first : (v : Entries) (vs : List Entries) → ComeAfter v vs → (user : List ℕ) (place : ℕ) → place < length (lasts_of user vs) → v.lasts user ≤ slice_index (lasts_of user vs) place
above_first v [] come user place lt = absurd (omega (arith, lt))
above_first v (w ∷ ws) come user zero lt = come.0.lasts user
above_first v (w ∷ ws) come user (suc place) lt = omega (arith, come.0.lasts user, above_first w ws come.1 user place (omega (arith, lt)))

never_after : (v : Entries) (vs : List Entries) → ComeAfter v vs → (user : List ℕ) → NeverFall (lasts_of user vs)
never_after v [] come user i j le lt = absurd (omega (arith, lt))
never_after v (w ∷ ws) come user zero zero le lt = omega arith
never_after v (w ∷ ws) come user zero (suc j) le lt = above_first w ws come.1 user j (omega (arith, lt))
never_after v (w ∷ ws) come user (suc i) zero le lt = absurd (omega (arith, le))
never_after v (w ∷ ws) come user (suc i) (suc j) le lt = never_after w ws come.1 user i j (omega (arith, le)) (omega (arith, lt))

pub never_fall : (user : List ℕ) (vs : List Entries) → AreVolumes vs → NeverFall (lasts_of user vs)
never_fall user vs are = never_after no_entries vs are user

later_place : (number last place : ℕ) (lasts : List ℕ) → IsPlaceOf number (last ∷ lasts) (suc place) → IsPlaceOf number lasts place
later_place number last place lasts is = record {
  within = omega (arith, is.within);
  smaller = λ i lt. is.smaller (suc i) (omega (arith, lt));
  enough = λ lt. is.enough (omega (arith, lt));
}

pub first_at : (user : List ℕ) (number place : ℕ) (vs : List Entries) → IsPlaceOf number (lasts_of user vs) place → place < length vs → IsFirstAt user number vs place
first_at user number place [] is lt = absurd (omega (arith, lt))
first_at user number zero (v ∷ vs) is lt = record {
  earlier = [];
  v = v;
  later = vs;
  are = refl;
  before = refl;
  first = (tt, is.enough (omega arith));
}
first_at user number (suc place) (w ∷ vs) is lt =
    let at = first_at user number place vs (later_place number (w.lasts user) place (lasts_of user vs) is) (omega (arith, lt)) in
    record {
      earlier = w ∷ at.earlier;
      v = at.v;
      later = at.later;
      are = ap (λ others. w ∷ others) at.are;
      before = ap suc at.before;
      first = ((is.smaller 0 (omega arith), at.first.0), at.first.1);
    }

-- the last number of all is smaller, if each volume's is
newest_smaller : (user : List ℕ) (number : ℕ) (v : Entries) (vs : List Entries) → v.lasts user < number → IsPlaceOf number (lasts_of user vs) (length vs) → (newest_after v vs).lasts user < number
newest_smaller user number v [] less is = less
newest_smaller user number v (w ∷ ws) less is =
    newest_smaller user number w ws (is.smaller 0 (omega arith)) (later_place number (w.lasts user) (length ws) (lasts_of user ws) is)

pub none_at : (user : List ℕ) (number : ℕ) (vs : List Entries) → AreVolumes vs → 0 < number → IsPlaceOf number (lasts_of user vs) (length vs) → HasNone (whole vs) user number
none_at user number vs are above is = none_beyond user number vs are (newest_smaller user number no_entries vs above is)
