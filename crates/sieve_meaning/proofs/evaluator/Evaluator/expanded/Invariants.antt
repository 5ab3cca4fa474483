use Rattle.std.proofs.Common.{◌≡◌, ◌≤◌, ℕ, List, length, take}
use Rattle.sieve_check.specs.declared.typed.Segment.{Segment}
use Rattle.sieve_meaning.specs.declared.evaluator.Evaluator.{Evaluator}
use Rattle.octets.specs.Limits.{max_string}
use Rattle.sieve_meaning.specs.Meaning.{Effects, expanded}
use Rattle.sieve_meaning.specs.Evaluation.{HasEvaluated}
use Rattle.sieve_meaning.proofs.evaluator.Evaluator.expanded.Given as goal

-- the text is what stands for these segments, cut
pub record IsExpanded (evaluator : Evaluator) (segments : List Segment) (text : List ℕ) : Type 0 where
  pub text_is : (e : Effects) → HasEvaluated e evaluator → text ≡ expanded e segments
  pub room : length text ≤ max_string

abbrev pub invariant-loop-segment : goal.invariant-loop-segment
invariant-loop-segment l = IsExpanded l.self (take l.segment-index l.string) l.text.items
