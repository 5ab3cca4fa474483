use Rattle.volumes.proofs.Whole.{rest_after, rest_whole}
use Rattle.volumes.proofs.laws.removed_volumes_take_their_entries_alone.Goals as goal

pub returns-clause-whole : goal.returns-clause-whole
returns-clause-whole c = rest_whole

pub returns-clause-volumes : goal.returns-clause-volumes
returns-clause-volumes c = rest_after
