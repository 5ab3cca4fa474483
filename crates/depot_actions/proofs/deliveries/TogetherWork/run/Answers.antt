use Rattle.depot_actions.proofs.deliveries.TogetherWork.run.Goals as goal

pub returns-clause-does : goal.returns-clause-does
returns-clause-does g c =
    let ensures = c.deliver_each.ensures in
    record {
      done = ensures.done;
      was_open = ensures.open;
      inside = ensures.inside;
      stays_closed = ensures.stays_closed;
      kept = ensures.kept;
      which = ensures.which;
      refused = ensures.refused;
      survives = ensures.survives;
    }
