use Rattle.std.proofs.Common.{◌∙◌, ◌<◌, sym}
use Rattle.std.proofs.lemmas.Simd.{zip2_of_maps, splat_is_map, Each1-from_get_or}
use Rattle.std.proofs.lemmas.List.{map-id}
use Rattle.octet_lanes.specs.Encoding.{upper_of}
use Rattle.octet_lanes.specs.Lanes.{added}
use Rattle.octet_lanes.specs.Private.{taken, if_below}
use Rattle.octet_lanes.proofs.Symbols.{map_same}
use Rattle.octet_lanes.proofs.classes.ascii_upper_lanes.Goals as goal

pub returns : goal.returns
returns c =
    let v = c.args.octets.now in
    let less = zip2_of_maps (if_below 26) (taken 97) (λ _. 224) v c.less-places.ensures (splat_is_map v 32 224 c.told-octets) in
    c.plus.ensures ∙ zip2_of_maps added (λ x. x) _ v (sym (map-id v)) (c.where_below.ensures ∙ less)
    ∙ map_same _ upper_of 256 tt v (Each1-from_get_or (λ x. x < 256) v 0 (λ i l. c.fits-octets i))
