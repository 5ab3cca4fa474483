use Rattle.depot_actions.proofs.deliveries.AloneWork.run.Goals as goal

pub returns-clause-does : goal.returns-clause-does
returns-clause-does g c =
    let ensures = c.deliver_within.ensures in
    record {
      done = ensures.done;
      inside = ensures.inside;
      sound = ensures.sound;
      which = ensures.which;
      refused = ensures.refused;
      cause = ensures.cause;
      within = ensures.within;
    }
