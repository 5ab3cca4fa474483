use Rattle.std.proofs.Common.{◌≡◌, ℕ, ◌-◌, ◌*◌, ◌/◌, ◌%◌, ◌^◌, ◌<◌, ◌++◌, length, map, take, drop, replicate, sym, ap, ◌∙◌, arith}
use Rattle.std.proofs.lemmas.List.Elements.{All-map, All-same}
use Rattle.std.proofs.Math.Nat.{mod-lt}
use Rattle.octet_lanes.specs.Encoding.{all_bits, before_padding, padding, stray, values_among, values_of, whole, width}
use Rattle.octet_lanes.proofs.Reading.{closed_octets, values_of-padded, values_small, zero_small}
use Rattle.octet_lanes.proofs.reader.block_octets.Goals as goal

pub join-octets-requires : goal.join-octets-requires
join-octets-requires c =
    let w = width c.args.alphabet in
    let f : ℕ → ℕ = λ class. class % 2 ^ w in
    All-same (λ value. value < 2 ^ w) c.some_values.result (map f c.close_up-n.result.0) c.some_values.ensures (All-map (λ value. value < 2 ^ w) f c.close_up-n.result.0 (λ k d l. mod-lt _ (zero_small c.args.alphabet)))

pub returns-clause-bits : goal.returns-clause-bits
returns-clause-bits c =
    let a = c.args.alphabet in
    let w = width a in
    let low : ℕ → ℕ = λ value. value % 2 ^ w in
    let text = c.args.text.now in
    let kept = values_among c.classify.result in
    let filler = replicate (32 - length kept) stray in
    let m = c.close_up-n.result.1 * c.width.result / 8 in
    let octets = c.join-octets.result in
    let symbols = c.up_to_padding.result.now in
    let block : c.padded-block.result ≡ symbols ++ drop (length symbols) (replicate 32 padding) = c.padded-block.ensures in
    let values : kept ≡ values_of a (before_padding text) =
    ap values_among c.classify.ensures
    ∙ ap (values_of a) block
    ∙ values_of-padded a symbols (length symbols)
    ∙ ap (values_of a) c.up_to_padding.ensures in
    let small = All-same (λ value. value < 2 ^ w) kept (values_of a (before_padding text)) values (values_small a (before_padding text)) in
    let many : m ≡ length kept * w / 8 = (λ i. c.close_up-n.ensures.number i * c.width.ensures i / 8) in
    let bits : all_bits 8 (take (4 * w) octets) ≡ all_bits w (map low (kept ++ filler)) = c.join-octets.ensures ∙ ap (all_bits w) (c.some_values.ensures ∙ ap (map low) c.close_up-n.ensures.lanes) in
    closed_octets a m kept filler octets small (omega (arith, sym c.close_up-n.ensures.number, c.close_up-n.ensures.few)) many bits ∙ ap (λ l. whole 8 (all_bits w l)) values
