use Rattle.part_store.proofs.Crashed.{cut_off_leaves}
use Rattle.part_store.proofs.Unfinished.{refused_leaves}
use Rattle.part_store.proofs.laws.refused_opens_leave_the_state.Goals as goal

pub returns-clause-refused : goal.returns-clause-refused
returns-clause-refused g c image other it held holds = refused_leaves image other it held holds

pub returns-clause-cut_off : goal.returns-clause-cut_off
returns-clause-cut_off g c image other it held holds = cut_off_leaves image other it g.met.D.Disk.seen_may_stay held holds
