use Rattle.volumes.proofs.Stepping.{accepts_whole, none_named, volumes_after, whole_collides, whole_full, whole_hindered}
use Rattle.volumes.proofs.laws.commands_on_volumes_are_steps.Goals as goal

pub returns-clause-accepted : goal.returns-clause-accepted
returns-clause-accepted c = accepts_whole

pub returns-clause-volumes : goal.returns-clause-volumes
returns-clause-volumes c = volumes_after

pub returns-clause-none : goal.returns-clause-none
returns-clause-none c = none_named

pub returns-clause-full : goal.returns-clause-full
returns-clause-full c = whole_full

pub returns-clause-colliding : goal.returns-clause-colliding
returns-clause-colliding c = whole_collides

pub returns-clause-hindered : goal.returns-clause-hindered
returns-clause-hindered c = whole_hindered
