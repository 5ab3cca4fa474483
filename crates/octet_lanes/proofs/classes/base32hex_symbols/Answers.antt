use Rattle.std.proofs.Common.{◌<◌, ◌∙◌}
use Rattle.std.proofs.lemmas.Simd.{zip2_of_maps, Each1-from_get_or}
use Rattle.octet_lanes.specs.Encoding.{symbol_of}
use Rattle.octet_lanes.specs.Lanes.{added, if_from}
use Rattle.octet_lanes.specs.declared.alphabet.Alphabet.TheVariants.{Base32Hex}
use Rattle.octet_lanes.proofs.Symbols.{map_same}
use Rattle.octet_lanes.proofs.classes.base32hex_symbols.Goals as goal

pub returns : goal.returns
returns c =
    c.plus.ensures ∙ zip2_of_maps added (λ x. added x 48) (if_from 10 7) c.args.lanes c.more.ensures c.where_from.ensures
    ∙ map_same _ (symbol_of Base32Hex) 32 tt c.args.lanes (Each1-from_get_or (λ x. x < 32) c.args.lanes 0 (λ i l. c.requires i 0 l))
