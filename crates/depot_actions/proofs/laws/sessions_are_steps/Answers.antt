use Rattle.part_store.proofs.Crashed.{cut_off_leaves}
use Rattle.part_store.proofs.Unfinished.{refused_leaves}
use Rattle.depot_actions.proofs.Crashing.{nothing_leads, run_leads}
use Rattle.depot_actions.proofs.laws.sessions_are_steps.Goals as goal

pub returns-clause-run : goal.returns-clause-run
returns-clause-run g c image run it = run_leads image run it g.met.D.Disk.seen_may_stay

pub returns-clause-refused : goal.returns-clause-refused
returns-clause-refused g c image other it = nothing_leads image other (refused_leaves image other it)

pub returns-clause-cut_off : goal.returns-clause-cut_off
returns-clause-cut_off g c image other it = nothing_leads image other (cut_off_leaves image other it g.met.D.Disk.seen_may_stay)
