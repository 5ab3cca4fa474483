use Rattle.volumes.proofs.Applied.{keeps_whole, whole_then}
use Rattle.volumes.proofs.beginning.begin_if_large.Goals as goal

pub returns-clause-keeps : goal.returns-clause-keeps
returns-clause-keeps g c =
    let k = g.V.Volumes.holding in
    whole_then k c.args.volumes.now c.newest_size.new.self c.begin_next.new.volumes (keeps_whole k c.args.volumes.now c.newest_size.new.self c.newest_size.ensures.keeps) c.begin_next.ensures.keeps
