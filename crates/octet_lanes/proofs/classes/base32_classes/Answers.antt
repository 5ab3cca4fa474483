use Rattle.std.proofs.Common.{◌∙◌}
use Rattle.std.proofs.lemmas.Simd.{zip2_of_maps}
use Rattle.octet_lanes.specs.Encoding.{class_of}
use Rattle.octet_lanes.specs.Lanes.{added}
use Rattle.octet_lanes.specs.Private.{taken, in_run}
use Rattle.octet_lanes.specs.declared.alphabet.Alphabet.TheVariants.{Base32}
use Rattle.octet_lanes.proofs.Lanes.{then, octets_in}
use Rattle.octet_lanes.proofs.Symbols.{map_same}
use Rattle.octet_lanes.proofs.classes.base32_classes.Goals as goal

pub returns : goal.returns
returns c =
    let first = in_run 65 26 1 in
    let second = in_run 50 6 27 in
    then (taken 1) (λ x. added (first x) (second x)) c.args.lanes (c.plus.ensures ∙ zip2_of_maps added first second c.args.lanes c.run.ensures c.run-2.ensures) c.less.ensures
    ∙ map_same _ (class_of Base32) 256 tt c.args.lanes (octets_in c.args.lanes c.fits-lanes.1)
