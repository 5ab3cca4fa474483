use Rattle.std.proofs.Common.{◌<◌, ◌+◌, ◌^◌, ap, ◌∙◌, sym, subst}
use Rattle.std.specs.Simd.Lanes.{Each1}
use Rattle.octet_lanes.specs.Encoding.{all_bits}
use Rattle.octet_lanes.proofs.Pairs.{bits-whole, small-whole}
use Rattle.octet_lanes.proofs.groups.join_64.Goals as goal

pub wholes_64-requires-clause-small : goal.wholes_64-requires-clause-small
wholes_64-requires-clause-small c = subst (Each1 (λ group. group < 2 ^ c.args.width)) (sym c.pairs_64.ensures) c.requires.small

pub returns : goal.returns
returns c =
    let small = subst (Each1 (λ group. group < 2 ^ c.args.width)) (sym c.pairs_64.ensures) c.requires.small in
    let k = c.args.width in
    record {
      bits = ap (all_bits (k + k)) c.wholes_64.ensures ∙ bits-whole k 32 c.pairs_64.result small ∙ ap (all_bits k) c.pairs_64.ensures;
      small = subst (Each1 (λ number. number < 2 ^ (k + k))) (sym c.wholes_64.ensures) (small-whole k 32 c.pairs_64.result small);
    }
