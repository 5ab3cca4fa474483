-- The lines of an input.
use Rattle.std.specs.Prelude.{◌≡◌, ◌≢◌, ℕ, List, [], ◌∷◌, ◌++◌, IfSome, codes, true}
use Rattle.std.specs.Io.{StartsWith, StopsAt}
use Rattle.std.specs.Io.KnownBytes.{Keeps}
use Rattle.std.specs.List.{All}
use Rattle.devices.specs.Supply.{HasGiven, HasStoppedGiving, Supply}
use Rattle.refusals.specs.declared.refusal.Refusal.{Refusal}
use Rattle.refusals.specs.declared.refusal.Refusal.TheVariants.{Memory, Read}

-- a line: octets with no line break among them, and one after them
pub record IsLine (octets : List ℕ) : Type 0 where
  pub text : List ℕ
  pub ends : octets ≡ text ++ 10 ∷ []
  pub plain : All (λ octet. octet ≢ 10) text

-- a line that begins as one does that asks for a delivery
pub record IsDeliveryLine (octets : List ℕ) : Type 0 where
  pub whole : IsLine octets
  pub begins : StartsWith octets (codes "deliver ")

-- what an input may end with that is no line: octets, one at least, with no line break among them
pub record IsUnfinished (octets : List ℕ) : Type 0 where
  pub some : octets ≢ []
  pub plain : All (λ octet. octet ≢ 10) octets

-- all that an input had left was taken, and its end was met
pub record HasTakenAll (octets : List ℕ) (old new : Supply) : Type 0 where
  pub given : HasGiven octets old new
  pub all : IfSome old.left (λ left. left ≡ octets)
  pub flag : new.has_ended ≡ true

-- these are the octets that come next; none was taken, and no call failed
pub record HasShown (octets : List ℕ) (old new : Supply) : Type 0 where
  pub left : Keeps old.left new.left
  pub next : IfSome old.left (λ left. StartsWith left octets)
  pub given : new.given ≡ old.given
  pub faults : new.faults ≡ old.faults

-- Why no line was taken: memory was refused, or a call failed; the octets that were given before
-- have no line break among them but perhaps as the last.
abbrev pub HasNotTaken : Refusal → List ℕ → Supply → Supply → Type 0
HasNotTaken Memory octets old new = StopsAt octets 10 × HasGiven octets old new
HasNotTaken Read octets old new = StopsAt octets 10 × HasStoppedGiving octets old new
HasNotTaken _ octets old new = ⊥
