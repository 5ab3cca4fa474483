use Rattle.volumes.proofs.Whole.{begins_after, begins_whole}
use Rattle.volumes.proofs.laws.begun_volumes_change_nothing.Goals as goal

pub returns-clause-whole : goal.returns-clause-whole
returns-clause-whole c = begins_whole

pub returns-clause-volumes : goal.returns-clause-volumes
returns-clause-volumes c = begins_after
