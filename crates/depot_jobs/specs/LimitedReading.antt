-- Why limited reading gives up, and what it took until then.
use Rattle.std.specs.Prelude.{◌≡◌, ℕ, ◌+◌, ◌≤◌, List, length}
use Rattle.devices.specs.Supply.{HasGiven, HasStoppedGiving, Supply}
use Rattle.refusals.specs.declared.refusal.Refusal.{Refusal}
use Rattle.refusals.specs.declared.refusal.Refusal.TheVariants.{Memory, MessageTooLarge, Read}

-- no more octets came than the limit, and memory was refused or a call failed; or one octet more came
abbrev pub HasGivenUp : Refusal → ℕ → Supply → Supply → Type 0
HasGivenUp Memory limit old new = (octets : List ℕ) × (length octets ≤ limit) × HasGiven octets old new
HasGivenUp MessageTooLarge limit old new = (octets : List ℕ) × (length octets ≡ limit + 1) × HasGiven octets old new
HasGivenUp Read limit old new = (octets : List ℕ) × (length octets ≤ limit) × HasStoppedGiving octets old new
HasGivenUp _ limit old new = ⊥
