use Rattle.std.proofs.Common.{arith}
use Rattle.octet_lanes.proofs.Lanes.{any_equal}
use Rattle.octet_lanes.proofs.classes.has_stray.Goals as goal

pub returns : goal.returns
returns c = any_equal c.args.classes.now 32 255 c.told-classes (omega arith)
