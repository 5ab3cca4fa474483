use Rattle.std.proofs.Common.{◌≡◌, ◌^◌, ◌<◌, map, false, sym, ap, ◌∙◌, eqb}
use Rattle.std.specs.List.{list_any}
use Rattle.std.proofs.lemmas.List.Elements.{All-same}
use Rattle.octet_lanes.specs.Encoding.{class_of, stray, values_of, width}
use Rattle.octet_lanes.proofs.Lanes.{all_values}
use Rattle.octet_lanes.proofs.Reading.{block_read, values_small}
use Rattle.octet_lanes.proofs.reader.append_block.Goals as goal

pub append_values-requires-clause-small : goal.append_values-requires-clause-small
append_values-requires-clause-small c =
    let a = c.args.alphabet in
    let block = c.args.block.now in
    let free : list_any (λ class. eqb class stray) (map (class_of a) block) ≡ false = ap (list_any (λ class. eqb class stray)) (sym c.classify-classes.ensures) ∙ sym c.has_stray.ensures ∙ c.if-not-has_stray.true in
    All-same (λ value. value < 2 ^ width a) c.classify-classes.result (values_of a block) (c.classify-classes.ensures ∙ sym (all_values (map (class_of a) block) free)) (values_small a block)

pub returns-then-not-has_stray-clause-read : goal.returns-then-not-has_stray-clause-read
returns-then-not-has_stray-clause-read c =
    block_read c.args.alphabet c.args.block.now c.classify-classes.result c.args.out.now.items c.append_values.new.out.items c.told-block c.classify-classes.ensures
    (sym c.has_stray.ensures ∙ c.if-not-has_stray.true) c.in_ok-append_values.ensures.bits
