use Rattle.std.proofs.Common.{bit_and}
use Rattle.std.proofs.lemmas.Simd.{zip2_splat}
use Rattle.octet_lanes.proofs.operations.low_bits.Goals as goal

pub returns : goal.returns
returns c = zip2_splat bit_and c.args.lanes 32 c.args.mask c.fits-lanes.0
