use Rattle.octet_lanes.proofs.ReadBack.{spelled_by_one}
use Rattle.octet_lanes.proofs.laws.spells_at_most_one.Goals as goal

pub returns : goal.returns
returns c = spelled_by_one
