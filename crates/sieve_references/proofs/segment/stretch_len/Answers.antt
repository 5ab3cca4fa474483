use Rattle.std.proofs.Common.{◌≡◌, ◌∙◌, ◌∷◌, ◌+◌, length, true, false, is_some, ap, sym, arith}
use Rattle.std.proofs.lemmas.List.{length-append}
use Rattle.sieve_references.specs.Reading.{octets_before, reference_behind}
use Rattle.sieve_references.specs.SegmentView.{segment_of}
use Rattle.sieve_references.proofs.Words.{found_with}
use Rattle.sieve_references.proofs.Stretches.{none_before, more_before, dollar_before, says}
use Rattle.sieve_references.proofs.segment.stretch_len.Goals as goal

pub returns-then-is_some : goal.returns-then-is_some
returns-then-is_some c =
    let parts = c.in-Some.ensures in
    let said : is_some (reference_behind c.in-Some.after.now) ≡ true =
    says c.reference_behind.result (λ found. found_with found.1.now (segment_of found.0)) (reference_behind c.in-Some.after.now) c.reference_behind.ensures ∙ sym c.is_some.ensures ∙ c.if-is_some.true in
    let before : octets_before c.dollars.rest.now ≡ length c.in-Some.plain.now + octets_before (36 ∷ c.in-Some.after.now) = ap octets_before parts.1 ∙ more_before c.in-Some.plain.now (36 ∷ c.in-Some.after.now) parts.0 in
    omega (arith, before, dollar_before c.in-Some.after.now true said, c.dollars.invariant.1)

pub dollars-preserved : goal.dollars-preserved
dollars-preserved c =
    let parts = c.in-Some.ensures in
    let said : is_some (reference_behind c.in-Some.after.now) ≡ false =
    says c.reference_behind.result (λ found. found_with found.1.now (segment_of found.0)) (reference_behind c.in-Some.after.now) c.reference_behind.ensures ∙ sym c.is_some.ensures ∙ c.if-is_some.false in
    let before : octets_before c.dollars.rest.now ≡ length c.in-Some.plain.now + octets_before (36 ∷ c.in-Some.after.now) = ap octets_before parts.1 ∙ more_before c.in-Some.plain.now (36 ∷ c.in-Some.after.now) parts.0 in (
      omega (arith, c.dollars.invariant.0, ap length parts.1, length-append c.in-Some.plain.now (36 ∷ c.in-Some.after.now)),
      omega (arith, before, dollar_before c.in-Some.after.now false said, c.dollars.invariant.1),
    )

pub returns : goal.returns
returns c = omega (arith, c.dollars.invariant.0, c.dollars.invariant.1, none_before c.dollars.rest.now c.in_default.ensures)
