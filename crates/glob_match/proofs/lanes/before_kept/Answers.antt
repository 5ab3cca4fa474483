use Rattle.std.proofs.Common.{arith}
use Rattle.octet_lanes.proofs.Lanes.{none_equal, some_equal}
use Rattle.glob_match.proofs.lanes.before_kept.Goals as goal

pub returns-then-marks-eq0 : goal.returns-then-marks-eq0
returns-then-marks-eq0 c = none_equal c.args.kept 32 255 c.fits-kept.0 (omega arith) c.if-marks-eq0.true

pub returns : goal.returns
returns c = some_equal c.args.kept 32 255 c.fits-kept.0 (omega arith) c.if-marks-eq0.false
