use Rattle.std.proofs.Common.{arith, refl}
use Rattle.sieve_lexer.proofs.Answered.{quoted_token, no_quoted_token}
use Rattle.sieve_lexer.proofs.reader.quoted_at.Goals as goal

pub returns-in_err-end : goal.returns-in_err-end
returns-in_err-end c = rw c.from_residual.ensures (no_quoted_token c.args.script.now c.args.place c.requires.first c.in_err-end.ensures.rest)

pub returns : goal.returns
returns c =
    let bound = c.in_ok-end.ensures.bound in
    (refl, quoted_token c.args.script.now c.args.place c.in_ok-end.end c.requires.first (omega (arith, bound.0)) bound.1 c.in_ok-end.ensures.rest)
