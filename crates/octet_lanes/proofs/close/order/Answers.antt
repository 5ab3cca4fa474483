use Rattle.octet_lanes.proofs.Closing.{row_is}
use Rattle.octet_lanes.proofs.close.order.Goals as goal

pub returns : goal.returns
returns c = row_is c.args.bits c.requires
