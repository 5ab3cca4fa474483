-- What is asked of a shelf.
use Rattle.std.proofs.Common.{◌≡◌, ◌∙◌, ◌+◌, ◌-◌, ◌^◌, min, ℕ, suc, Bool, true, false, if◌then◌else◌, ap, arith}
use Rattle.devices.specs.Device.{counted}
use Rattle.depot_jobs.specs.Host.{Call, HostState, with_call, with_faults}

-- what was asked was noted, or it wasn't
pub noted : (b : Bool) (asked call : Call) (old new : HostState) → new ≡ (if b then with_call asked old else old) → b ≡ true → asked ≡ call → new ≡ with_call call old
noted true asked call old new is was same = is ∙ ap (λ c. with_call c old) same
noted false asked call old new is was same = absurd (cc was)

pub not_noted : (b : Bool) (asked : Call) (old new : HostState) → new ≡ (if b then with_call asked old else old) → b ≡ false → new ≡ old
not_noted true asked old new is was = absurd (cc was)
not_noted false asked old new is was = is

-- failures are counted, and then one more
one_more : (n count : ℕ) → counted 1 (min (count + n) (2 ^ 64 - 1)) ≡ counted (suc n) count
one_more n count = omega arith

pub with_one_more : (n count : ℕ) (state : HostState) → count ≡ min (state.faults + n) (2 ^ 64 - 1) → with_faults 1 (record state { faults = count }) ≡ with_faults (suc n) state
with_one_more n count state is = ap (λ faults. record state { faults = faults }) (ap (counted 1) is ∙ one_more n state.faults)
