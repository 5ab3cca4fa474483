-- What is known of a sink, and what calls do to it.
use Rattle.std.specs.Prelude.{◌≡◌, ℕ, zero, suc, ◌+◌, ◌-◌, ◌^◌, min, List, Option, ◌++◌, IfErr, OnErr, OnOk, Result}
use Rattle.std.specs.Io.KnownBytes.{Appends, Keeps}
use Rattle.refusals.specs.declared.refusal.Refusal.{Refusal}
use Rattle.refusals.specs.declared.refusal.Refusal.TheVariants.{Memory, Write}

-- a count after so many more; counts stop at 2^64 - 1
abbrev pub counted : ℕ → ℕ → ℕ
counted zero count = count
counted (suc more) count = min (count + suc more) (2 ^ 64 - 1)

-- what is known of a sink: the octets that it took, where they are told, and how many of its calls have failed
pub record Output : Type 0 where
  pub written : Option (List ℕ)
  pub faults : ℕ

-- the sink took these octets, and no call failed
pub record HasTaken (octets : List ℕ) (old new : Output) : Type 0 where
  pub written : Appends old.written new.written octets
  pub faults : new.faults ≡ old.faults

-- one call failed, and took nothing
pub record HasFailed (old new : Output) : Type 0 where
  pub written : Keeps old.written new.written
  pub faults : new.faults ≡ counted 1 old.faults

-- the sink took the first of these octets, and then one call failed
pub record HasBroken (octets : List ℕ) (old new : Output) : Type 0 where
  pub prefix : List ℕ
  pub rest : List ℕ
  pub whole : octets ≡ prefix ++ rest
  pub written : Appends old.written new.written prefix
  pub faults : new.faults ≡ counted 1 old.faults

-- the sink took the first of these octets, and no call failed
pub record HasBegun (octets : List ℕ) (old new : Output) : Type 0 where
  pub prefix : List ℕ
  pub rest : List ℕ
  pub whole : octets ≡ prefix ++ rest
  pub taken : HasTaken prefix old new

-- why a sink didn't take all of these octets: one call failed, or memory was refused between two calls
abbrev pub HasStopped : Refusal → List ℕ → Output → Output → Type 0
HasStopped Write octets old new = HasBroken octets old new
HasStopped Memory octets old new = HasBegun octets old new
HasStopped _ octets old new = ⊥

-- a call that writes these octets: the sink took all of them if it succeeded; otherwise the first of them, up to where a
-- call of the sink failed
pub record HasPut {A E : Type 0} (result : Result A E) (octets : List ℕ) (old new : Output) : Type 0 where
  pub ok : OnOk result (HasTaken octets old new)
  pub err : OnErr result (HasBroken octets old new)

-- the same where a call can stop for other reasons, too
pub record HasPutUnless {A E : Type 0} (Stopped : E → List ℕ → Output → Output → Type 0) (result : Result A E) (octets : List ℕ) (old new : Output) : Type 0 where
  pub ok : OnOk result (HasTaken octets old new)
  pub err : IfErr result (λ e. Stopped e octets old new)
