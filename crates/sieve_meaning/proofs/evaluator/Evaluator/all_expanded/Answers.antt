use Rattle.std.proofs.Common.{sym, ◌∙◌, arith}
use Rattle.std.specs.Global.{Vec}
use Rattle.std.proofs.lemmas.List.{length-map}
use Rattle.sieve_check.specs.declared.typed.Segment.{Segment}
use Rattle.sieve_meaning.specs.Expanded.{written}
use Rattle.sieve_meaning.proofs.Joining.{as_written, written_short}
use Rattle.sieve_meaning.proofs.evaluator.Evaluator.all_expanded.Goals as goal

pub returns-then-are_written-clause-expanded : goal.returns-then-are_written-clause-expanded
returns-then-are_written-clause-expanded c = λ e stands. as_written e c.args.strings.now (sym c.are_written.ensures ∙ c.if-are_written.true)

pub returns-then-are_written-clause-texts : goal.returns-then-are_written-clause-texts
returns-then-are_written-clause-texts c = record {
  few = omega (arith, c.requires, length-map c.args.strings.now (λ (s : Vec Segment). written s.items));
  short = written_short c.args.strings.now;
}
