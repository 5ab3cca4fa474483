use Rattle.depot_jobs.specs.Jobs.{host_and_outputs}
use Rattle.depot.specs.Programs.{save_of}
use Rattle.depot.proofs.Saved.{ended}
use Rattle.depot.proofs.programs.save_from.Goals as goal

pub returns : goal.returns
returns g c = record {
  ended =
      ended g.D.Disk c.open-opened.result _ c.close-left.result g.met.D.Disk.seen_may_stay (g.P.Opener.refuses c.args.saving.name.now) (save_of c.args.saving _ (host_and_outputs _ _ _) (host_and_outputs _ _ _)) (g.P.Opener.image c.args.saving.name.now) c.open-opened.ensures.found c.open-opened.ensures.refused c.save-status.ensures.served c.save-status.ensures.survives c.close-left.ensures.shut;
}
