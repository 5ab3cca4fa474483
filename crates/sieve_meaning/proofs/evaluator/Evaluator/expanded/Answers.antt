use Rattle.std.proofs.Common.{ap, ◌∙◌, ◌++◌, take}
use Rattle.std.proofs.lemmas.List.{take_all}
use Rattle.octets.specs.Limits.{max_string}
use Rattle.sieve_meaning.specs.Meaning.{expanded, value_of}
use Rattle.sieve_meaning.proofs.Joining.{one_more_segment}
use Rattle.sieve_meaning.proofs.evaluator.Evaluator.expanded.Goals as goal

pub loop-segment-preserved : goal.loop-segment-preserved
loop-segment-preserved c = record {
  text_is = λ e stands.
      c.in_ok-append.ensures.text
      ∙ ap (λ v. take max_string (c.loop-segment.text.items ++ v)) (c.value.ensures e stands)
      ∙ ap (λ t. take max_string (t ++ value_of e c.segment-item.result)) (c.loop-segment.invariant.text_is e stands)
      ∙ one_more_segment e c.args.string.now c.loop-segment.segment-index c.segment-item.result c.loop-segment-test.true c.segment-item.is;
  room = c.in_ok-append.ensures.room;
}

pub returns-clause-text : goal.returns-clause-text
returns-clause-text c = λ e stands.
    c.from_vec.ensures ∙ c.loop-segment.invariant.text_is e stands
    ∙ ap (expanded e) (take_all c.loop-segment.segment-index c.args.string.now c.loop-segment-test.false)
