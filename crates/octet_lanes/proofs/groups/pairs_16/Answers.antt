use Rattle.std.proofs.Common.{w8}
use Rattle.std.proofs.lemmas.Simd.{below_from_Fits}
use Rattle.octet_lanes.proofs.Relaned.{wider}
use Rattle.octet_lanes.proofs.groups.pairs_16.Goals as goal

pub returns : goal.returns
returns c = wider 8 16 c.args.lanes c.fits-lanes.0 (below_from_Fits w8 c.args.lanes c.fits-lanes.1)
