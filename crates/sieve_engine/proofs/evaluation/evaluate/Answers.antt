use Rattle.std.proofs.Common.{subst}
use Rattle.std.proofs.lemmas.Result.{IfOk-weaker}
use Rattle.sieve_engine.specs.Execution.{IsReport}
use Rattle.sieve_engine.proofs.EngineLemmas.{evaluated}
use Rattle.sieve_engine.proofs.evaluation.evaluate.Goals as goal

pub returns-in-Ok-clause-evaluated : goal.returns-in-Ok-clause-evaluated
returns-in-Ok-clause-evaluated c =
    let code = c.in_ok-program.program in
    IfOk-weaker c.run_on.result _ _
    (λ report h. evaluated c.args.script.now c.args.message.now code _ _ _ c.in_ok-program.ensures.compiled
    (subst (λ v. IsReport v c.args.message.now report.outcome.actions.items report.outcome.charged report.limit) c.in-Ok.ensures.value h))
    c.run_on.ensures.reported
