use Rattle.std.proofs.Common.{arith}
use Rattle.sieve_lexer.proofs.Steps.{leads_push}
use Rattle.sieve_lexer.proofs.separators.gap_end.Goals as goal

pub separators-preserved : goal.separators-preserved
separators-preserved c =
    (c.in-Some.ensures.bound.1, omega (arith, c.in-Some.ensures.bound.0), leads_push _ c.args.place c.separators.end c.in-Some.next c.separators.invariant.2 c.in-Some.ensures.separator)
