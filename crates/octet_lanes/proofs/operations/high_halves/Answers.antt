use Rattle.std.proofs.Common.{◌/◌, ◌^◌}
use Rattle.std.proofs.lemmas.Simd.{zip2_splat}
use Rattle.octet_lanes.proofs.operations.high_halves.Goals as goal

pub returns : goal.returns
returns c = zip2_splat (λ a b. a / 2 ^ b) c.args.lanes 32 4 c.fits-lanes.0
