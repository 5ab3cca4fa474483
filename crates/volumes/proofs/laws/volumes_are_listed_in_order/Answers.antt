use Rattle.volumes.proofs.Whole.{since_listings, user_listings, whole_numbered}
use Rattle.volumes.proofs.laws.volumes_are_listed_in_order.Goals as goal

pub returns-clause-listed : goal.returns-clause-listed
returns-clause-listed c = user_listings

pub returns-clause-since : goal.returns-clause-since
returns-clause-since c = since_listings

pub returns-clause-numbered : goal.returns-clause-numbered
returns-clause-numbered c = whole_numbered
