use Rattle.depot.proofs.Carried.{ended}
use Rattle.depot.proofs.tasks.carry_from.Goals as goal

pub returns : goal.returns
returns g c = record {
  ended =
      ended g.D.Disk c.open-opened.result _ c.close-left.result g.met.D.Disk.seen_may_stay (g.P.Opener.refuses c.args.pending.now.name.now) _ (g.P.Opener.image c.args.pending.now.name.now) c.open-opened.ensures.found c.open-opened.ensures.refused c.carry-status.ensures.carried c.carry-status.ensures.survives c.close-left.ensures.shut;
}
