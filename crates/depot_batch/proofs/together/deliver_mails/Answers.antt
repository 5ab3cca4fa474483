use Rattle.std.proofs.Common.{◌≡◌, ◌∙◌, ap, map}
use Rattle.sqlite.specs.Held.{state}
use Rattle.depot_actions.specs.Deliveries.{command_of as asked_of}
use Rattle.depot_batch.specs.Private.{command_of}
use Rattle.depot_batch.proofs.Grouping.{done_as}
use Rattle.depot_batch.proofs.together.deliver_mails.Goals as goal

pub returns-in-Ok-deliver_all-clause-done : goal.returns-in-Ok-deliver_all-clause-done
returns-in-Ok-deliver_all-clause-done g c clean =
    let same : map asked_of c.deref.result.now ≡ map command_of c.args.mails.now = ap (map asked_of) c.deref.ensures.value ∙ c.in-Ok.ensures in
    done_as (map asked_of c.deref.result.now) (map command_of c.args.mails.now) c.in-Ok-deliver_all.replies.items (state g.S.Store c.args.depot.now) (state g.S.Store c.deliver_all.new.self) same
    (c.in-Ok-deliver_all.ensures.done clean)
