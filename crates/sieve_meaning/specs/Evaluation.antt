-- How the evaluator's fields stand for what a script has done.
use Rattle.std.specs.Prelude.{◌≡◌, ℕ, List}
use Rattle.mail_matching.specs.Outcomes.{captures_of}
use Rattle.bytecode_format.specs.Actions.{first_occurrences}
use Rattle.sieve_meaning.specs.declared.evaluator.Evaluator.{Evaluator}
use Rattle.sieve_meaning.specs.declared.evaluator.Flow.{Flow}
use Rattle.sieve_meaning.specs.declared.evaluator.Flow.TheVariants.{GoesOn, Stopped, Leaves}
use Rattle.sieve_meaning.specs.Values.{found_in}
use Rattle.sieve_meaning.specs.Meaning.{Effects, Ending, normal, stopped, broken}

-- the evaluator stands for these effects
pub record HasEvaluated (effects : Effects) (evaluator : Evaluator) : Type 0 where
  pub actions : evaluator.actions ≡ first_occurrences effects.actions
  pub implicit_keep : evaluator.implicit_keep ≡ effects.implicit_keep
  pub captures : captures_of evaluator.captures ≡ effects.captures
  pub variables : (name : List ℕ) → found_in evaluator.variables.values name ≡ effects.variables name

-- the evaluator stands for this ending
abbrev pub StandsAt : Ending → Flow → Evaluator → Type 0
StandsAt (normal effects) GoesOn evaluator = HasEvaluated effects evaluator
StandsAt (stopped effects) Stopped evaluator = HasEvaluated effects evaluator
StandsAt (broken loops effects) (Leaves left) evaluator = (left ≡ loops) × HasEvaluated effects evaluator
StandsAt _ _ evaluator = ⊥
