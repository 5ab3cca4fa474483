use Rattle.std.proofs.Common.{◌<◌, ◌∙◌}
use Rattle.std.proofs.lemmas.Simd.{zip2_of_maps, Each1-from_get_or}
use Rattle.octet_lanes.specs.Encoding.{symbol_of}
use Rattle.octet_lanes.specs.Lanes.{added, if_from}
use Rattle.octet_lanes.specs.declared.alphabet.Alphabet.TheVariants.{Base64}
use Rattle.octet_lanes.proofs.Symbols.{map_same}
use Rattle.octet_lanes.proofs.classes.base64_symbols.Goals as goal

pub returns : goal.returns
returns c =
    let v = c.args.lanes in
    let letters = c.plus-letters.ensures ∙ zip2_of_maps added (λ x. added x 65) (if_from 26 6) v c.more.ensures c.where_from.ensures in
    let digits = c.plus-digits.ensures ∙ zip2_of_maps added (if_from 52 181) (if_from 62 241) v c.where_from-2.ensures c.where_from-3.ensures in
    let both = c.plus.ensures ∙ zip2_of_maps added (λ x. added (added x 65) (if_from 26 6 x)) (λ x. added (if_from 52 181 x) (if_from 62 241 x)) v letters digits in
    c.plus-2.ensures ∙ zip2_of_maps added _ (if_from 63 3) v both c.where_from-4.ensures
    ∙ map_same _ (symbol_of Base64) 64 tt c.args.lanes (Each1-from_get_or (λ x. x < 64) c.args.lanes 0 (λ i l. c.requires i 0 l))
