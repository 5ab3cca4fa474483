use Rattle.volumes.proofs.Halving.{first_at, never_fall, none_at}
use Rattle.volumes.proofs.Stepping.{held_at}
use Rattle.volumes.proofs.Whole.{since_later}
use Rattle.volumes.proofs.laws.numbers_lead_to_their_volume.Goals as goal

pub returns-clause-held : goal.returns-clause-held
returns-clause-held c = held_at

pub returns-clause-ordered : goal.returns-clause-ordered
returns-clause-ordered c = never_fall

pub returns-clause-found : goal.returns-clause-found
returns-clause-found c = first_at

pub returns-clause-none : goal.returns-clause-none
returns-clause-none c = none_at

pub returns-clause-since : goal.returns-clause-since
returns-clause-since c = since_later
