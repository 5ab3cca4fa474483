use Rattle.std.proofs.Common.{ℕ, ◌/◌, ◌<◌, bit_and, bit_or, get_or, ◌∙◌, sym, subst}
use Rattle.std.specs.Simd.Lanes.{Each1}
use Rattle.std.proofs.lemmas.Simd.{zip2_of_maps}
use Rattle.std.proofs.lemmas.List.{map-id}
use Rattle.octet_lanes.specs.Encoding.{class_of}
use Rattle.octet_lanes.specs.Lanes.{added, if_equal}
use Rattle.octet_lanes.specs.declared.alphabet.Alphabet.TheVariants.{Base64}
use Rattle.octet_lanes.specs.declared.classes.TheConstants.{LOW_KINDS, HIGH_KINDS, STEPS}
use Rattle.octet_lanes.proofs.Lanes.{then, octets_in}
use Rattle.octet_lanes.proofs.Symbols.{map_below, map_same}
use Rattle.octet_lanes.proofs.classes.base64_classes.Goals as goal

pub look_up-low_kinds-requires-clause-places : goal.look_up-low_kinds-requires-clause-places
look_up-low_kinds-requires-clause-places c =
    subst (Each1 (λ place. place < 16)) (sym c.low_bits.ensures) (map_below (λ x. bit_and x 15) 16 256 tt c.args.lanes (octets_in c.args.lanes c.fits-lanes.1))

pub look_up-requires-clause-places : goal.look_up-requires-clause-places
look_up-requires-clause-places c =
    subst (Each1 (λ place. place < 16)) (sym c.high_halves-high.ensures) (map_below (λ x. x / 16) 16 256 tt c.args.lanes (octets_in c.args.lanes c.fits-lanes.1))

pub look_up-requires-2-clause-places : goal.look_up-requires-2-clause-places
look_up-requires-2-clause-places c =
    let v = c.args.lanes in
    let places = c.plus-places.ensures ∙ zip2_of_maps added (λ x. x / 16) (if_equal 47 255) v c.high_halves-high.ensures c.where_equal.ensures in
    subst (Each1 (λ place. place < 16)) (sym places) (map_below (λ x. added (x / 16) (if_equal 47 255 x)) 16 256 tt v (octets_in v c.fits-lanes.1))

pub returns : goal.returns
returns c =
    let v = c.args.lanes in
    let low : ℕ → ℕ = λ x. get_or LOW_KINDS (bit_and x 15) 0 in
    let high : ℕ → ℕ = λ x. get_or HIGH_KINDS (x / 16) 0 in
    let place : ℕ → ℕ = λ x. added (x / 16) (if_equal 47 255 x) in
    let step : ℕ → ℕ = λ x. get_or STEPS (place x) 0 in
    let lows = then (λ p. get_or LOW_KINDS p 0) (λ x. bit_and x 15) v c.low_bits.ensures c.look_up-low_kinds.ensures in
    let highs = then (λ p. get_or HIGH_KINDS p 0) (λ x. x / 16) v c.high_halves-high.ensures c.look_up.ensures in
    let kinds = c.both-kinds.ensures ∙ zip2_of_maps bit_and low high v lows highs in
    let strays = then (if_equal 0 255) (λ x. bit_and (low x) (high x)) v kinds c.where_equal-2.ensures in
    let places = c.plus-places.ensures ∙ zip2_of_maps added (λ x. x / 16) (if_equal 47 255) v c.high_halves-high.ensures c.where_equal.ensures in
    let steps = then (λ p. get_or STEPS p 0) place v places c.look_up-2.ensures in
    let values = c.plus-values.ensures ∙ zip2_of_maps added (λ x. x) step v (sym (map-id v)) steps in
    c.either.ensures ∙ zip2_of_maps bit_or (λ x. added x (step x)) (λ x. if_equal 0 255 (bit_and (low x) (high x))) v values strays
    ∙ map_same _ (class_of Base64) 256 tt v (octets_in v c.fits-lanes.1)
