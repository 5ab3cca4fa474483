use Rattle.std.proofs.Common.{arith, sym, subst}
use Rattle.sieve_lexer.specs.Separators.{IsGap}
use Rattle.sieve_lexer.proofs.Once.{tokens_push}
use Rattle.sieve_lexer.proofs.reader.tokens.Goals as goal

pub loop-place-smaller : goal.loop-place-smaller
loop-place-smaller c =
    let token = c.in-Some.ensures in
    let gap = c.gap_end-place-in-loop-place.ensures.bound in
    omega (arith, token.0, token.1.some, gap.0, gap.1)

pub loop-place-preserved : goal.loop-place-preserved
loop-place-preserved c =
    let s = c.args.script.now in
    let token = c.in-Some.ensures in
    let end = c.gap_end-place-in-loop-place.ensures in
    let before = c.loop-place.invariant.1 in
    let pushed = tokens_push s c.loop-place.tokens.items 0 before.0 c.in-Some.token before.1.0
    (subst (λ i. IsGap s before.0 i) (sym token.0) before.1.1) token.1 in
    (end.bound.1, (c.in-Some.token.end, (rw c.in_ok-push.ensures.items pushed, end.gap)), end.ended)
