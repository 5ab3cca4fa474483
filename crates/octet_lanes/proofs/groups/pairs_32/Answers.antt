use Rattle.std.proofs.Common.{w16, ap, ◌∙◌, refl, ◌^◌}
use Rattle.std.specs.List.{flat_map}
use Rattle.std.proofs.lemmas.Simd.{below_from_Fits}
use Rattle.octet_lanes.specs.Private.{parts_of}
use Rattle.octet_lanes.proofs.Relaned.{wider, through_octets}
use Rattle.octet_lanes.proofs.groups.pairs_32.Goals as goal

pub returns : goal.returns
returns c =
    let small = below_from_Fits w16 c.args.lanes c.fits-lanes.1 in
    ap (flat_map (parts_of 16)) (through_octets (2 ^ 16) (2 ^ 32) 16 8 c.args.lanes c.fits-lanes.0 small refl)
    ∙ wider 16 8 c.args.lanes c.fits-lanes.0 small
