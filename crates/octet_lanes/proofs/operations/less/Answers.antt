use Rattle.std.proofs.lemmas.Simd.{zip2_splat}
use Rattle.octet_lanes.specs.Private.{taken}
use Rattle.octet_lanes.proofs.operations.less.Goals as goal

pub returns : goal.returns
returns c = zip2_splat (λ x n. taken n x) c.args.lanes 32 c.args.n c.fits-lanes.0
