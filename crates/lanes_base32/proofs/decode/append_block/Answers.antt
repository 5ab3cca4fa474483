use Rattle.std.proofs.Common.{◌≡◌, ◌*◌, ◌^◌, ◌<◌, eqb, false, length, map, take, sym, ap, ◌∙◌, arith}
use Rattle.std.specs.List.{list_any}
use Rattle.std.proofs.lemmas.Bool.{false≢true}
use Rattle.std.proofs.lemmas.List.{length-map}
use Rattle.std.proofs.lemmas.List.Elements.{All-same}
use Rattle.std.proofs.lemmas.Simd.{Each1-from_get_or}
use Rattle.octet_lanes.specs.Encoding.{all_bits, class_of, stray, values_of, width}
use Rattle.octet_lanes.proofs.Bits.{length-all_bits}
use Rattle.octet_lanes.proofs.Lanes.{all_values}
use Rattle.octet_lanes.proofs.Reading.{values_small}
use Rattle.lanes_base32.proofs.Blocks.{block_spelled, spelled_free}
use Rattle.lanes_base32.proofs.decode.append_block.Goals as goal

pub returns-then-has_stray-clause-refused : goal.returns-then-has_stray-clause-refused
returns-then-has_stray-clause-refused c = λ e octets long spells.
    let free = spelled_free c.args.alphabet c.args.block.now octets long spells in
    false≢true (sym free ∙ ap (list_any (λ class. eqb class stray)) (sym c.classify-classes.ensures) ∙ sym c.has_stray.ensures ∙ c.if-has_stray.true)

pub join-requires : goal.join-requires
join-requires c =
    let a = c.args.alphabet in
    let block = c.args.block.now in
    let free : list_any (λ class. eqb class stray) (map (class_of a) block) ≡ false = ap (list_any (λ class. eqb class stray)) (sym c.classify-classes.ensures) ∙ sym c.has_stray.ensures ∙ c.if-has_stray.false in
    All-same (λ value. value < 2 ^ width a) c.classify-classes.result (values_of a block) (c.classify-classes.ensures ∙ sym (all_values (map (class_of a) block) free)) (values_small a block)

pub returns-clause-octets : goal.returns-clause-octets
returns-clause-octets c =
    let a = c.args.alphabet in
    let w = width a in
    let block = c.args.block.now in
    let classes = c.classify-classes.result in
    let octets = take (4 * c.width.result) c.join.result in
    let bits : all_bits 8 octets ≡ all_bits w classes = ap (λ k. all_bits 8 (take (4 * k) c.join.result)) c.width.ensures ∙ c.join.ensures in
    let many : length classes ≡ 32 = ap length c.classify-classes.ensures ∙ length-map block (class_of a) ∙ c.told-block in
    let count : length octets * 8 ≡ 32 * w = sym (length-all_bits 8 octets) ∙ ap length bits ∙ length-all_bits w classes ∙ ap (λ k. k * w) many in
    let long : length octets ≡ 4 * w = omega arith in
    let small = Each1-from_get_or (λ x. x < 256) block 0 (λ i l. c.fits-block i) in
    (octets, c.in_ok-extend_from_slice.ensures.items, long, block_spelled a block classes octets small c.classify-classes.ensures (sym c.has_stray.ensures ∙ c.if-has_stray.false) bits long)
