use Rattle.std.proofs.Common.{arith}
use Rattle.octet_lanes.proofs.Lanes.{any_equal}
use Rattle.glob_match.proofs.lanes.any_kept.Goals as goal

pub returns : goal.returns
returns c = any_equal c.args.kept 32 255 c.fits-kept.0 (omega arith)
