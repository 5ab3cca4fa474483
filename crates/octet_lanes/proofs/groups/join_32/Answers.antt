use Rattle.std.proofs.Common.{◌<◌, ◌+◌, ◌^◌, ap, ◌∙◌, sym, subst}
use Rattle.std.specs.Simd.Lanes.{Each1}
use Rattle.octet_lanes.specs.Encoding.{all_bits}
use Rattle.octet_lanes.proofs.Pairs.{bits-whole, small-whole}
use Rattle.octet_lanes.proofs.groups.join_32.Goals as goal

pub wholes_32-requires-clause-small : goal.wholes_32-requires-clause-small
wholes_32-requires-clause-small c = subst (Each1 (λ group. group < 2 ^ c.args.width)) (sym c.pairs_32.ensures) c.requires.small

pub returns : goal.returns
returns c =
    let small = subst (Each1 (λ group. group < 2 ^ c.args.width)) (sym c.pairs_32.ensures) c.requires.small in
    let k = c.args.width in
    record {
      bits = ap (all_bits (k + k)) c.wholes_32.ensures ∙ bits-whole k 16 c.pairs_32.result small ∙ ap (all_bits k) c.pairs_32.ensures;
      small = subst (Each1 (λ number. number < 2 ^ (k + k))) (sym c.wholes_32.ensures) (small-whole k 16 c.pairs_32.result small);
    }
