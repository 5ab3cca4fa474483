use Rattle.std.proofs.Common.{◌∙◌, ap, arith, get_or, refl}
use Rattle.sieve_trace.specs.declared.places.Place.{Place}
use Rattle.sieve_trace.proofs.PlaceLemmas.{behind, column_small, line_small, place_next}
use Rattle.sieve_trace.proofs.places.forward.Goals as goal

pub next-place-requires-clause-line : goal.next-place-requires-clause-line
next-place-requires-clause-line c =
    let is = ap (λ (p : Place). p.line) c.octets.invariant in
    let small = c.requires.small in
    omega (arith, is, small, line_small c.args.script.now c.octets.octet)

pub next-place-requires-clause-column : goal.next-place-requires-clause-column
next-place-requires-clause-column c =
    let is = ap (λ (p : Place). p.column) c.octets.invariant in
    let small = c.requires.small in
    omega (arith, is, small, column_small c.args.script.now c.octets.octet)

pub octets-preserved : goal.octets-preserved
octets-preserved c =
    let lt = c.octets-test.true in
    let within = c.requires.within in
    c.next-place.ensures ∙ ap (λ (p : Place). behind p (get_or c.args.script.now c.octets.octet 0)) c.octets.invariant ∙ place_next c.args.script.now c.octets.octet _ (omega (arith, lt, within)) refl
