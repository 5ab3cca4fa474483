use Rattle.std.proofs.Common.{◌≡◌, ◌≤◌, ℕ, List, All, length, map, take}
use Rattle.std.specs.Global.{Vec}
use Rattle.sieve_check.specs.declared.typed.Segment.{Segment}
use Rattle.sieve_check.specs.TypedView.{templates_of}
use Rattle.sieve_meaning.specs.declared.evaluator.Evaluator.{Evaluator}
use Rattle.octets.specs.Limits.{max_string}
use Rattle.sieve_meaning.specs.Meaning.{Effects, all_expanded}
use Rattle.sieve_meaning.specs.Evaluation.{HasEvaluated}
use Rattle.sieve_meaning.specs.Expanded.{octets_of}
use Rattle.sieve_meaning.proofs.evaluator.Evaluator.each_expanded.Given as goal

-- the texts are these strings, each expanded
pub record AreExpanded (evaluator : Evaluator) (strings : List (Vec Segment)) (texts : List (List ℕ)) : Type 0 where
  pub texts_are : (e : Effects) → HasEvaluated e evaluator → texts ≡ all_expanded e (templates_of strings)
  pub count : length texts ≡ length strings
  pub short : All (λ text. length text ≤ max_string) texts

abbrev pub invariant-loop-string : goal.invariant-loop-string
invariant-loop-string l = AreExpanded l.self (take l.string-index l.strings) (map octets_of l.texts.items)
