use Rattle.octet_lanes.proofs.Lanes.{kept_below}
use Rattle.octet_lanes.proofs.operations.where_below.Goals as goal

pub returns : goal.returns
returns c = kept_below c.args.n 32 c.args.lanes c.args.numbers c.fits-lanes.0 c.fits-numbers.0
