use Rattle.std.proofs.Common.{arith}
use Rattle.octet_lanes.proofs.Lanes.{none_equal, some_equal}
use Rattle.octet_lanes.proofs.classes.run_len.Goals as goal

pub returns-then-strays-eq0 : goal.returns-then-strays-eq0
returns-then-strays-eq0 c = none_equal c.args.classes.now 32 255 c.told-classes (omega arith) c.if-strays-eq0.true

pub returns : goal.returns
returns c = some_equal c.args.classes.now 32 255 c.told-classes (omega arith) c.if-strays-eq0.false
