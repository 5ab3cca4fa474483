use Rattle.std.proofs.Common.{w16}
use Rattle.std.proofs.lemmas.Simd.{below_from_Fits}
use Rattle.octet_lanes.proofs.Relaned.{narrower}
use Rattle.octet_lanes.proofs.groups.parts_16.Goals as goal

pub returns : goal.returns
returns c = narrower 8 16 c.args.lanes c.fits-lanes.0 (below_from_Fits w16 c.args.lanes c.fits-lanes.1)
