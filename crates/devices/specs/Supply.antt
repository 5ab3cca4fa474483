-- What is known of a source, and what calls do to it.
use Rattle.std.specs.Prelude.{◌≡◌, ℕ, List, Option, Bool, true, length}
use Rattle.std.specs.Io.KnownBytes.{Consumes, IsAtEnd, Keeps}
use Rattle.devices.specs.Device.{counted}

-- what is known of a source: the octets that are left, where they are told; how many it gave, at
-- most 2^64 - 1; whether the last call met the end; and how many of its calls have failed
pub record Supply : Type 0 where
  pub left : Option (List ℕ)
  pub given : ℕ
  pub has_ended : Bool
  pub faults : ℕ

-- the source gave these octets, and no call failed
pub record HasGiven (octets : List ℕ) (old new : Supply) : Type 0 where
  pub left : Consumes old.left new.left octets
  pub given : new.given ≡ counted (length octets) old.given
  pub faults : new.faults ≡ old.faults

-- the last call met the end
pub record HasEnded (now : Supply) : Type 0 where
  pub left : IsAtEnd now.left
  pub flag : now.has_ended ≡ true

-- one call failed, and gave nothing
pub record HasFailedToGive (old new : Supply) : Type 0 where
  pub left : Keeps old.left new.left
  pub given : new.given ≡ old.given
  pub faults : new.faults ≡ counted 1 old.faults

-- the source gave these octets, and then one call failed
pub record HasStoppedGiving (octets : List ℕ) (old new : Supply) : Type 0 where
  pub left : Consumes old.left new.left octets
  pub given : new.given ≡ counted (length octets) old.given
  pub faults : new.faults ≡ counted 1 old.faults
