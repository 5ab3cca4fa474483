use Rattle.part_store.proofs.Crashed.{files_leave_committed, holds_either, was_or_is}
use Rattle.part_store.proofs.laws.calls_leave_what_was_or_is.Goals as goal

pub returns : goal.returns
returns g c change before old new at clean numbered survives image may =
    holds_either image new before (change before) (was_or_is change before old new (files_leave_committed old g.met.D.Disk.seen_may_stay) at clean survives) numbered may
