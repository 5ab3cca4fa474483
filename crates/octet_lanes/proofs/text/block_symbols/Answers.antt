use Rattle.std.proofs.Common.{sym, ◌∙◌, ◌*◌, ◌<◌, ◌^◌, take, arith}
use Rattle.std.proofs.lemmas.List.{length-take-le}
use Rattle.std.proofs.lemmas.Simd.{Each1-from_get_or}
use Rattle.octet_lanes.specs.Encoding.{width}
use Rattle.octet_lanes.proofs.Texts.{encoding_whole, in_lanes}
use Rattle.octet_lanes.proofs.text.block_symbols.Goals as goal

pub returns : goal.returns
returns c =
    let a = c.args.alphabet in
    let groups = c.split.result in
    c.spell.ensures ∙ sym (encoding_whole a groups (take (4 * width a) c.args.octets.now)
    (Each1-from_get_or (λ g. g < 2 ^ width a) groups 0 (λ i l. c.split.ensures.groups i 0 l)) c.split.ensures.bits
    (length-take-le (4 * width a) c.args.octets.now (omega (arith, in_lanes a, c.told-octets))))
