use Rattle.std.proofs.Common.{refl}
use Rattle.sieve_engine.proofs.EngineLemmas.{reported}
use Rattle.sieve_engine.proofs.execution.run_on.Goals as goal

pub returns-clause-reported : goal.returns-clause-reported
returns-clause-reported c =
    reported c.args.message.now c.args.verified.now c.in_ok-message.message _ _ _ c.requires c.in_ok-message.ensures.read.0 c.in_ok-message.ensures.read.1 c.in_ok-outcome.ensures
    (rw (c.at-limit.ensures, c.budget.ensures, c.size.ensures.value, c.parts.ensures.value) refl)
