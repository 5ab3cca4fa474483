use Rattle.std.proofs.Common.{◌<◌, ◌^◌, ap, ◌∙◌, sym, subst}
use Rattle.std.specs.List.{flat_map}
use Rattle.std.specs.Simd.Lanes.{Each1}
use Rattle.octet_lanes.specs.Encoding.{all_bits}
use Rattle.octet_lanes.specs.Private.{parts_of}
use Rattle.octet_lanes.proofs.Pairs.{bits-halves, small-halves}
use Rattle.octet_lanes.proofs.groups.split_16.Goals as goal

pub returns : goal.returns
returns c =
    let is = c.parts_16.ensures ∙ ap (flat_map (parts_of 8)) c.halves_16.ensures in
    record {
      bits = ap (all_bits c.args.width) is ∙ bits-halves c.args.width 8 c.args.lanes c.requires.width c.requires.small;
      small = subst (Each1 (λ group. group < 2 ^ c.args.width)) (sym is) (small-halves c.args.width 8 c.args.lanes c.requires.width c.requires.small);
    }
