use Rattle.std.proofs.Common.{inl, inr, refl}
use Rattle.depot_jobs.proofs.WorkingLemmas.{explained}
use Rattle.depot_cli.proofs.running.run.Goals as goal

pub returns-in-Ok : goal.returns-in-Ok
returns-in-Ok g c = inl (c.in-Ok.line, c.in-Ok.ensures.says, c.lead.ensures)

pub returns-in-Err : goal.returns-in-Err
returns-in-Err g c = inr (c.tell_fault.result, refl, explained c.in-Err.ensures.taken (refl, refl) c.tell_fault.ensures)
