use Rattle.std.proofs.Common.{refl}
use Rattle.sqlite.proofs.StateLemmas.{clean_if_open}
use Rattle.depot_actions.specs.Deliveries.{reply_of}
use Rattle.depot_actions.specs.DepotState.{Deliver}
use Rattle.volumes.proofs.Applied.{newest_applied, passed}
use Rattle.volumes.proofs.commands.deliver_newest.Goals as goal

pub returns-in_err-place : goal.returns-in_err-place
returns-in_err-place g c =
    passed g.V.Volumes.holding c.args.volumes.now c.open_newest.new.volumes c.in_err-place.ensures.keeps (Deliver c.args.user.now c.args.message.now) reply_of c.from_residual.result _ c.from_residual.ensures.1 c.in_err-place.ensures.which

pub returns : goal.returns
returns g c =
    newest_applied g.S.Store (λ h is_open. clean_if_open (g.S.Store.view h.store) (g.met.S.Store.shut_if_dirty h.store) is_open) g.V.Volumes.holding c.in_ok-place.place c.args.volumes.now c.open_newest.new.volumes c.close.new.self c.in_ok-place.depot c.deliver-result.new.self
    c.in_ok-place.ensures.opened c.close.ensures.closed (Deliver c.args.user.now c.args.message.now) reply_of (λ earlier v. refl) c.deliver-result.result c.deliver-result.ensures
