use Rattle.sqlite.proofs.StateLemmas.{clean_if_open}
use Rattle.depot_actions.specs.DepotState.{Done, Remove}
use Rattle.volumes.proofs.Applied.{passed}
use Rattle.volumes.proofs.Sought.{few_closed, removed}
use Rattle.volumes.proofs.commands.remove.Goals as goal

pub returns-in_err-place-clause-applies : goal.returns-in_err-place-clause-applies
returns-in_err-place-clause-applies g c =
    passed g.V.Volumes.holding c.args.volumes.now c.open_with.new.volumes c.in_err-place.ensures.keeps (Remove c.args.user.now c.args.number) (λ _. Done) c.from_residual.result _ c.from_residual.ensures.1 c.in_err-place.ensures.which

pub returns-clause-applies : goal.returns-clause-applies
returns-clause-applies g c =
    removed g.S.Store (λ h is_open. clean_if_open (g.S.Store.view h.store) (g.met.S.Store.shut_if_dirty h.store) is_open) g.V.Volumes.holding c.args.user.now c.args.number c.in_ok-place.place c.args.volumes.now c.open_with.new.volumes c.close.new.self c.in_ok-place.depot c.remove-result.new.self
    c.in_ok-place.ensures.opened c.close.ensures.closed (λ _. Done) c.remove-result.result c.remove-result.ensures

pub returns-clause-few : goal.returns-clause-few
returns-clause-few g c = few_closed g.V.Volumes.holding c.args.volumes.now c.open_with.new.volumes c.close.new.self c.open_with.ensures.few c.close.ensures.counted
