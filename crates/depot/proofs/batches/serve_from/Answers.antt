use Rattle.depot.proofs.Served.{ended}
use Rattle.depot.proofs.batches.serve_from.Goals as goal

pub returns : goal.returns
returns g c = record {
  ended =
      ended g.D.Disk c.open-opened.result _ c.close-left.result g.met.D.Disk.seen_may_stay (g.P.Opener.refuses c.args.name.now) _ (g.P.Opener.image c.args.name.now) c.open-opened.ensures.found c.open-opened.ensures.refused c.batch-status.ensures c.close-left.ensures.shut;
}
