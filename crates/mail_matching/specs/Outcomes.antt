-- What the code's answers stand for.
use Rattle.std.specs.Prelude.{◌≡◌, ◌<◌, ◌+◌, ◌^◌, ℕ, Bool, false, true, List, Option, None, Some, IfSome}
use Rattle.mail_matching.specs.FirstMatch.{no_captures}
use Rattle.mail_matching.specs.Questions.{Asked, answered, compared_cost, finding_in}
use Rattle.mail_matching.specs.declared.finding.Finding.{Finding}
use Rattle.mail_matching.specs.declared.finding.Finding.TheVariants.{Pair, NoneOf}
use Rattle.mail_matching.specs.declared.outcome.Outcome.{Outcome}
use Rattle.mail_matching.specs.declared.outcome.Outcome.TheVariants.{Fails, Holds, Captures}
use Rattle.mail_matching.specs.declared.progress.Progress.{Progress}

-- the captures after a test; None where it fails
abbrev pub after : Outcome → List (List ℕ) → Option (List (List ℕ))
after Fails captures = None
after Holds captures = Some captures
after (Captures set) captures = Some set

-- the captures that were set last, and ten empty ones as long as none were
abbrev pub captures_of : Option (List (List ℕ)) → List (List ℕ)
captures_of None = no_captures
captures_of (Some captures) = captures

-- whether it holds
abbrev pub holds : Outcome → Bool
holds Fails = false
holds Holds = true
holds (Captures set) = true

-- ---- what asking leaves in the progress that it was given

-- nothing was asked yet
abbrev pub IsFresh : {T : Type 0} → Progress T → Type 0
IsFresh progress = (progress.outcome ≡ Fails) × (progress.extent ≡ 0)

-- so few values that a word counts them
abbrev pub IsFew : Finding → Type 0
IsFew (Pair value key) = Unit {0}
IsFew (NoneOf number) = number < 2 ^ 64

-- what was asked was answered with these keys: the captures after it are those of the answer; so much was charged, of which so
-- much was for looking for fields by their names; and who is told knows what was found
pub record HasAsked {T : Type 0} (knows : ℕ → T → Finding → Type 0) (asked : Asked) (keys : List (List ℕ)) (looked : ℕ) (old new : Progress T) (charge : ℕ) : Type 0 where
  pub outcome : (captures : List (List ℕ)) → after new.outcome captures ≡ answered asked keys captures
  pub cost : charge ≡ looked + compared_cost asked keys
  pub found : (most : ℕ) → knows most old.told (NoneOf 0) → IfSome (finding_in asked keys) (knows most new.told)
  pub few : IfSome (finding_in asked keys) IsFew
