use Rattle.std.proofs.Common.{w32, ap, ◌∙◌, refl, ◌^◌}
use Rattle.std.specs.List.{flat_map}
use Rattle.std.proofs.lemmas.Simd.{below_from_Fits}
use Rattle.octet_lanes.specs.Private.{parts_of}
use Rattle.octet_lanes.proofs.Relaned.{wider, through_octets}
use Rattle.octet_lanes.proofs.groups.pairs_64.Goals as goal

pub returns : goal.returns
returns c =
    let small = below_from_Fits w32 c.args.lanes c.fits-lanes.1 in
    ap (flat_map (parts_of 32)) (through_octets (2 ^ 32) (2 ^ 64) 8 4 c.args.lanes c.fits-lanes.0 small refl)
    ∙ wider 32 4 c.args.lanes c.fits-lanes.0 small
