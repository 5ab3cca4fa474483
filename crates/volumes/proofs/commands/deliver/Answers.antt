use Rattle.depot_actions.specs.Deliveries.{reply_of}
use Rattle.depot_actions.specs.DepotState.{Deliver}
use Rattle.volumes.proofs.Applied.{applied_after, refused_after}
use Rattle.volumes.proofs.commands.deliver.Goals as goal

pub returns-in_err-begin_if_large : goal.returns-in_err-begin_if_large
returns-in_err-begin_if_large g c =
    refused_after g.V.Volumes.holding c.args.volumes.now c.begin_if_large.new.volumes c.begin_if_large.ensures.keeps (Deliver c.args.user.now c.args.message.now) reply_of c.from_residual.result _ c.from_residual.ensures.1 c.in_err-begin_if_large.ensures.which

pub returns : goal.returns
returns g c =
    applied_after g.V.Volumes.holding c.args.volumes.now c.begin_if_large.new.volumes c.deliver_newest.new.volumes c.begin_if_large.ensures.keeps c.deliver_newest.result (Deliver c.args.user.now c.args.message.now) reply_of c.deliver_newest.ensures
