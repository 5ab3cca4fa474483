use Rattle.depot_batch.proofs.LineLemmas.{answered, broken_off}
use Rattle.depot_batch.proofs.line.serve.Goals as goal

pub returns-clause-answered : goal.returns-clause-answered
returns-clause-answered g c =
    answered g.S.Store c.args.desk.now.name.now c.args.line.now c.args.desk.now.format c.report_on-report.result _ _ _ _ _ _ c.report_on-report.ensures c.give.result c.give.ensures.outcome c.give.ensures.put

pub returns-clause-broken : goal.returns-clause-broken
returns-clause-broken g c =
    broken_off g.S.Store c.args.desk.now.name.now c.args.line.now c.args.desk.now.format c.report_on-report.result _ _ _ _ _ _ c.report_on-report.ensures c.give.result c.give.ensures.put
