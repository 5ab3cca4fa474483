use Rattle.std.proofs.Common.{w64, refl, ◌∙◌, ◌^◌}
use Rattle.std.proofs.lemmas.Simd.{below_from_Fits}
use Rattle.octet_lanes.proofs.Relaned.{narrower, through_octets}
use Rattle.octet_lanes.proofs.groups.parts_64.Goals as goal

pub returns : goal.returns
returns c =
    let small = below_from_Fits w64 c.args.lanes c.fits-lanes.1 in
    through_octets (2 ^ 64) (2 ^ 32) 4 8 c.args.lanes c.fits-lanes.0 small refl ∙ narrower 32 4 c.args.lanes c.fits-lanes.0 small
