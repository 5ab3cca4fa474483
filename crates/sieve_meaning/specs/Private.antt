-- Private: what a test gives, and what is done and told in a turn of a loop.
use Rattle.std.specs.Prelude.{◌≡◌, ℕ, Bool, List, Some}
use Rattle.mime_decode.specs.Mail.{Mail}
use Rattle.sieve_check.specs.Typed.{CommandForms}
use Rattle.sieve_meaning.specs.declared.evaluator.Evaluator.{Evaluator}
use Rattle.sieve_meaning.specs.Evaluation.{HasEvaluated}
use Rattle.sieve_meaning.specs.Meaning.{Effects, Ending, Verdict, commands_do}
use Rattle.sieve_meaning.specs.Traced.{Event, commands_events}

-- the evaluator gives this verdict
abbrev pub Gives : Verdict → Bool → Evaluator → Type 0
Gives verdict value evaluator = (verdict.value ≡ value) × HasEvaluated verdict.effects evaluator

-- what is done in a turn of a loop with this block, and what is told of it
abbrev pub turn_does : Mail → CommandForms → ℕ → Effects → Ending
turn_does mail block number effects = commands_do mail (Some number) block effects

abbrev pub turn_events : Mail → CommandForms → ℕ → Effects → List Event
turn_events mail block number effects = commands_events mail (Some number) block effects
