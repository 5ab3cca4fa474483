use Rattle.octet_lanes.proofs.Lanes.{chosen_from}
use Rattle.octet_lanes.proofs.operations.where_from.Goals as goal

pub returns : goal.returns
returns c = chosen_from c.args.n c.args.number 32 c.args.lanes c.fits-lanes.0
