use Rattle.std.proofs.Common.{w32, refl, ◌∙◌, ◌^◌}
use Rattle.std.proofs.lemmas.Simd.{below_from_Fits}
use Rattle.octet_lanes.proofs.Relaned.{narrower, through_octets}
use Rattle.octet_lanes.proofs.groups.parts_32.Goals as goal

pub returns : goal.returns
returns c =
    let small = below_from_Fits w32 c.args.lanes c.fits-lanes.1 in
    through_octets (2 ^ 32) (2 ^ 16) 8 16 c.args.lanes c.fits-lanes.0 small refl ∙ narrower 16 8 c.args.lanes c.fits-lanes.0 small
