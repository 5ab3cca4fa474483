-- Private: the captures after a comparison, how a test goes on, and what is kept of what it finds.
use Rattle.std.specs.Prelude.{ℕ, List, Option, None, Some, ◌≡◌, ◌+◌, ◌-◌, ◌^◌, min}
use Rattle.mail_matching.specs.FirstMatch.{first_match, ten_of}
use Rattle.std.specs.Option.{option_or}
use Rattle.glob_match.specs.Captures.{texts}
use Rattle.glob_match.specs.declared.comparator.Comparator.{Comparator}
use Rattle.glob_match.specs.declared.match_type.Match.{Match}
use Rattle.glob_match.specs.declared.match_type.MatchType.TheVariants as kinds
use Rattle.mail_matching.specs.Costs.{extent_of}
use Rattle.mail_matching.specs.Findings.{finding_of, is_pair, shortened}
use Rattle.mail_matching.specs.declared.comparing.Compared.{Compared}
use Rattle.mail_matching.specs.declared.comparing.Compared.TheVariants.{Differs, Matches, Sets}
use Rattle.mail_matching.specs.declared.finding.Finding.{Finding}
use Rattle.mail_matching.specs.declared.finding.Finding.TheVariants.{Pair, NoneOf}
use Rattle.mail_matching.specs.declared.finding.Found.{Found}
use Rattle.mail_matching.specs.declared.progress.Progress.{Progress}
use Rattle.mail_matching.specs.Outcomes.{after, holds}

-- the captures after a value was compared with a key; None where they differ
abbrev pub after_compared : List ℕ → Compared → List (List ℕ) → Option (List (List ℕ))
after_compared value Differs captures = None
after_compared value (Matches key) captures = Some captures
after_compared value (Sets key stretches) captures = Some (ten_of (texts value stretches))

-- the key that matched
abbrev pub key_in : Compared → Option (List ℕ)
key_in Differs = None
key_in (Matches key) = Some key.now
key_in (Sets key stretches) = Some key.now

-- how `:is` matches under a comparator
abbrev pub equalling : Comparator → Match
equalling comparator = record { kind = kinds.Is; comparator = comparator }

-- how `:contains` matches under a comparator
abbrev pub containing : Comparator → Match
containing comparator = record { kind = kinds.Contains; comparator = comparator }

-- how `:matches` matches under a comparator
abbrev pub fitting : Comparator → Match
fitting comparator = record { kind = kinds.Matches; comparator = comparator }

-- what values come to and then others
abbrev pub further : Finding → Finding → Finding
further (Pair value key) more = Pair value key
further (NoneOf number) (Pair value key) = Pair value key
further (NoneOf number) (NoneOf more) = NoneOf (number + more)

-- with a number that goes no further than a word
abbrev pub counted : Finding → Finding
counted (Pair value key) = Pair value key
counted (NoneOf number) = NoneOf (min number (2 ^ 64 - 1))

-- this much is kept of a finding
pub record IsCounted (most : ℕ) (finding : Finding) (found : Found) : Type 0 where
  pub limit : found.most ≡ most
  pub kept : found.finding ≡ counted (shortened most finding)

-- the values so far come to this finding, of which as much is known
pub record Stands {T : Type 0} (knows : ℕ → T → Finding → Type 0) (most : ℕ) (finding : Finding) (progress : Progress T) : Type 0 where
  pub holds : holds progress.outcome ≡ is_pair finding
  pub known : knows most progress.told finding

-- after the values that were taken before, these were: they are compared where none of the former
-- matched, and they count in any case
pub record GoesOn {T : Type 0} (knows : ℕ → T → Finding → Type 0) (how : Match) (values keys : List (List ℕ)) (old new : Progress T) : Type 0 where
  pub outcome : (captures : List (List ℕ))
      → after new.outcome captures ≡ option_or (after old.outcome captures) (first_match how values keys captures)
  pub extent : new.extent ≡ old.extent + extent_of values
  pub found : (most : ℕ) (finding : Finding) → Stands knows most finding old
      → Stands knows most (further finding (finding_of how values keys)) new
