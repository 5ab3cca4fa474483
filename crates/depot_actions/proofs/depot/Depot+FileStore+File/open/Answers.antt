use Rattle.std.proofs.lemmas.Result.{IfOk-weaker}
use Rattle.depot_actions.proofs.depot.Depot+FileStore+File.open.Goals as goal

pub returns-clause-ready : goal.returns-clause-ready
returns-clause-ready c = IfOk-weaker c.open_from.result _ _ (λ _ from. from.ready) c.open_from.ensures.ready
