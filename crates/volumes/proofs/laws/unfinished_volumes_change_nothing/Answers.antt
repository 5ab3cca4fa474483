use Rattle.volumes.proofs.Unfinished.{counted_volumes, counted_whole}
use Rattle.volumes.proofs.laws.unfinished_volumes_change_nothing.Goals as goal

pub returns-clause-whole : goal.returns-clause-whole
returns-clause-whole c = counted_whole

pub returns-clause-volumes : goal.returns-clause-volumes
returns-clause-volumes c = counted_volumes
