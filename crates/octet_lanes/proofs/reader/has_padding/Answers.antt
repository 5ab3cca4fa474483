use Rattle.std.proofs.Common.{arith}
use Rattle.octet_lanes.proofs.Lanes.{any_equal}
use Rattle.octet_lanes.proofs.reader.has_padding.Goals as goal

pub returns : goal.returns
returns c = any_equal c.args.octets.now 32 61 c.told-octets (omega arith)
