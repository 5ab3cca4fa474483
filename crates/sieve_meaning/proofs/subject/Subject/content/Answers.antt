use Rattle.std.proofs.Common.{arith}
use Rattle.sieve_meaning.proofs.Parts.{content_short}
use Rattle.sieve_meaning.proofs.subject.Subject.content.Goals as goal

pub returns-in_ok-content-in-Some-clause-short : goal.returns-in_ok-content-in-Some-clause-short
returns-in_ok-content-in-Some-clause-short c =
    let mail = c.args.self.message.now in
    content_short mail c.in-Some.part _ c.parts.ensures.mail (omega (arith, c.if-part-parts.true, c.parts.ensures.value)) (λ d. c.in_ok-content-in-Some.ensures.content d)
