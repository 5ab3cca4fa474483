use Rattle.std.proofs.Common.{length, ap, arith}
use Rattle.glob_match.proofs.Segmented.{length-tokens_of}
use Rattle.glob_match.proofs.segment.width.Goals as goal

pub overflow_add-width : goal.overflow_add-width
overflow_add-width c =
    omega (arith, length-tokens_of c.args.segment.now, c.tokens.invariant, ap length c.in-Some.ensures.tokens)
