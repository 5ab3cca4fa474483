use Rattle.std.proofs.Common.{◌∙◌}
use Rattle.sieve_compiler.proofs.NumberingLemmas.{segment_added}
use Rattle.sieve_compiler.proofs.tables.Tables.add_segments.Goals as goal

pub loop-segment-preserved : goal.loop-segment-preserved
loop-segment-preserved c =
    segment_added c.loop-segment.self c.add_segment.new.self c.args.segments.now c.loop-segment.segment-index c.segment-item.result
    c.loop-segment-test.true c.segment-item.is c.in_ok-add_segment.ensures ∙ c.loop-segment.invariant
