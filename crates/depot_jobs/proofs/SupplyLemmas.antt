-- What calls of a source come to, one after another.
use Rattle.std.proofs.Common.{◌≡◌, ◌∙◌, ◌+◌, ap, ℕ, zero, suc, List, ◌++◌, sym, subst, arith, length, take, drop, length-append}
use Rattle.std.proofs.Math.Seq.{take-add}
use Rattle.std.proofs.KnownBytes.{Consumes-trans}
use Rattle.devices.specs.Device.{counted}
use Rattle.devices.specs.Supply.{HasGiven, Supply}

-- counting in two steps is counting at once
pub counted-counted : (n m count : ℕ) → counted m (counted n count) ≡ counted (n + m) count
counted-counted zero m count = ap (λ k. counted k count) (let e : m ≡ 0 + m = omega arith in e)
counted-counted (suc n) zero count = ap (λ k. counted k count) (let e : suc n ≡ suc n + 0 = omega arith in e)
counted-counted (suc n) (suc m) count =
    let e : suc n + suc m ≡ suc (n + suc m) = omega arith in
    rw e (omega arith)

module _ {s0 s1 s2 : Supply} where
  -- octets were given, and then more of them
  pub given_both : (xs ys : List ℕ) → HasGiven xs s0 s1 → HasGiven ys s1 s2 → HasGiven (xs ++ ys) s0 s2
  given_both xs ys first later = record {
    left = Consumes-trans s0.left s1.left s2.left xs ys first.left later.left;
    given =
        later.given ∙ ap (counted (length ys)) first.given ∙ counted-counted (length xs) (length ys) s0.given ∙ ap (λ n. counted n s0.given) (sym (length-append xs ys));
    faults = later.faults ∙ first.faults;
  }

  -- the octets that are filled were given, and then so many after them; the room for those was made and filled in two steps
  pub given_more : (old room new : List ℕ) (filled n : ℕ) → HasGiven (take filled old) s0 s1
      → take filled room ≡ take filled old → take filled new ≡ take filled room → HasGiven (take n (drop filled new)) s1 s2 → HasGiven (take (filled + n) new) s0 s2
  given_more old room new filled n first made read later =
      rw (take-add filled n new) (given_both (take filled new) (take n (drop filled new)) (subst (λ xs. HasGiven xs s0 s1) (sym (read ∙ made)) first) later)
