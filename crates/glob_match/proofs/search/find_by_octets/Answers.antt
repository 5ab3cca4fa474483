use Rattle.std.proofs.Common.{◌+◌, ◌≤◌, length, inl, inr, sym, subst, ◌∙◌, arith}
use Rattle.std.proofs.lemmas.Bool.{true≢false, cases_eq}
use Rattle.std.proofs.lemmas.List.{length-map}
use Rattle.std.specs.Char.{to_ascii_uppercase}
use Rattle.memchr.specs.Find.{OccursAt}
use Rattle.glob_match.specs.declared.comparator.Comparator.TheVariants.{Casemap}
use Rattle.glob_match.specs.Comparison.{compared}
use Rattle.glob_match.proofs.Occurs.{occurs_from_equal, equal_from_occurs}
use Rattle.glob_match.proofs.search.find_by_octets.Goals as goal

pub returns-then-equal_from_first : goal.returns-then-equal_from_first
returns-then-equal_from_first c =
    let value = c.args.value.now in
    let text = c.args.text.now in
    let within : c.loop-place.place + length text ≤ length value = omega (arith, c.requires.fits) in (
      record {
        low = omega arith;
        high = omega (arith, length-map value to_ascii_uppercase);
        before = λ k low less. c.loop-place.invariant k low less;
      },
      occurs_from_equal value text c.loop-place.place within (sym c.equal_from_first.ensures ∙ c.if-equal_from_first.true),
    )

pub loop-place-preserved : goal.loop-place-preserved
loop-place-preserved c = λ k low less occurs.
    let value = c.args.value.now in
    let text = c.args.text.now in
    let place = c.loop-place.place in
    let within : place + length text ≤ length value = omega (arith, c.requires.fits) in
    elim (cases_eq k place) [
      | inl here ↦ true≢false (sym (c.equal_from_first.ensures ∙ equal_from_occurs value text place within (subst (λ n. OccursAt (compared Casemap value) (compared Casemap text) n) here occurs))
          ∙ c.if-equal_from_first.false)
      | inr other ↦ c.loop-place.invariant k low (omega arith) occurs
    ]

pub returns-else-equal_from_first : goal.returns-else-equal_from_first
returns-else-equal_from_first c = λ k low less occurs.
    let value = c.args.value.now in
    let text = c.args.text.now in
    let place = c.loop-place.place in
    let within : place + length text ≤ length value = omega (arith, c.requires.fits) in
    elim (cases_eq k place) [
      | inl here ↦ true≢false (sym (c.equal_from_first.ensures ∙ equal_from_occurs value text place within (subst (λ n. OccursAt (compared Casemap value) (compared Casemap text) n) here occurs))
          ∙ c.if-equal_from_first.false)
      | inr other ↦ c.loop-place.invariant k low (omega (arith, occurs.fits, length-map value to_ascii_uppercase, length-map text to_ascii_uppercase)) occurs
    ]
