use Rattle.std.proofs.Common.{ℕ, cond, false, ◌∙◌}
use Rattle.std.proofs.lemmas.Simd.{zip2_of_maps}
use Rattle.octet_lanes.specs.Lanes.{added, if_equal, if_from}
use Rattle.octet_lanes.proofs.Lanes.{octets_in}
use Rattle.octet_lanes.proofs.Symbols.{map_same}
use Rattle.quoted_printable.specs.QuotedPrintable.{stands}
use Rattle.quoted_printable.proofs.lanes.standing_lanes.Goals as goal

pub returns : goal.returns
returns c =
    let lanes = c.args.lanes in
    let graphic : ℕ → ℕ = λ x. added (if_from 33 1 x) (if_from 127 255 x) in
    let blank : ℕ → ℕ = λ x. added (if_equal 32 1 x) (if_equal 9 1 x) in
    let marked : ℕ → ℕ = λ x. added (graphic x) (if_equal 61 255 x) in
    let first = c.plus-graphic.ensures ∙ zip2_of_maps added (if_from 33 1) (if_from 127 255) lanes c.where_from.ensures c.where_from-2.ensures in
    let second = c.plus-blank.ensures ∙ zip2_of_maps added (if_equal 32 1) (if_equal 9 1) lanes c.where_equal.ensures c.where_equal-2.ensures in
    let third = c.plus.ensures ∙ zip2_of_maps added graphic (if_equal 61 255) lanes first c.where_equal-3.ensures in
    c.plus-2.ensures ∙ zip2_of_maps added marked blank lanes third second
    ∙ map_same _ (λ octet. cond (stands octet false) 1 0) 256 tt lanes (octets_in lanes c.fits-lanes.1)
