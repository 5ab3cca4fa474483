use Rattle.depot.specs.Looks.{answer}
use Rattle.depot.proofs.Looked.{ended}
use Rattle.depot.proofs.looks.look_from.Goals as goal

pub returns : goal.returns
returns g c = record {
  ended =
      ended g.D.Disk c.look-opened.result _ c.close-left.result g.met.D.Disk.seen_may_stay (g.P.Opener.refuses_look c.args.name.now) (answer c.args.look _ _ _ _ _) (g.P.Opener.image c.args.name.now) c.look-opened.ensures.seen c.look-opened.ensures.refused c.look_opened-status.ensures.reported c.look_opened-status.ensures.survives c.close-left.ensures.shut;
}
