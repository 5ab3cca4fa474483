use Rattle.std.proofs.lemmas.Simd.{zip2_splat}
use Rattle.octet_lanes.specs.Lanes.{added}
use Rattle.octet_lanes.proofs.operations.more.Goals as goal

pub returns : goal.returns
returns c = zip2_splat added c.args.lanes 32 c.args.n c.fits-lanes.0
