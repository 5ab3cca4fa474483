-- What a watcher of an evaluation is told.
use Rattle.std.specs.Prelude.{ℕ, List, ◌++◌, MatchResult, Result, option_map}
use Rattle.std.specs.Borrow.{Bor}
use Rattle.mail_matching.specs.Findings.{shortened}
use Rattle.mail_matching.specs.declared.finding.Finding.{Finding}
use Rattle.sieve_meaning.specs.Traced.{Event, Occurrence, asked, negated, all_held, any_held, acted, turned}
use Rattle.sieve_meaning.specs.declared.watching.Told.{Told}
use Rattle.sieve_meaning.specs.declared.watching.Told.TheVariants as code

-- what a watcher is lent, as the events have it
abbrev pub occurrence_of : Told → Occurrence
occurrence_of (code.Asked question value finding) = asked question value (option_map (λ (f : Bor Finding). f.now) finding)
occurrence_of (code.Not value) = negated value
occurrence_of (code.AllOf value) = all_held value
occurrence_of (code.AnyOf value) = any_held value
occurrence_of (code.Acted act text) = acted act.now text.now
occurrence_of code.Turn = turned

-- what is told of an occurrence: at most so many octets of each text that a test finds
abbrev pub shown : ℕ → Occurrence → Occurrence
shown most (asked question value finding) = asked question value (option_map (shortened most) finding)
shown most (negated value) = negated value
shown most (all_held value) = all_held value
shown most (any_held value) = any_held value
shown most (acted act text) = acted act text
shown most turned = turned

-- a call with this result has told the watcher these events, after all that it had heard, and what it returns is so; or
-- the evaluation has stopped in the events
abbrev pub Tells : {W F T : Type 0} → (W → List Event → W → Type 0) → (W → F → List Event → W → Type 0)
    → W → W → List Event → Result T F → (T → Type 0) → Type 0
Tells {W} heard stopped old new events result IsSo = (start : W) (before : List Event) → heard start before old
    → MatchResult result (λ x. IsSo x × heard start (before ++ events) new) (λ why. stopped start why (before ++ events) new)
