use Rattle.std.proofs.Common.{◌≡◌, ◌∙◌, ◌∷◌, ◌++◌, ap, sym, refl, true}
use Rattle.sieve_references.specs.Reading.{is_element, elements}
use Rattle.sieve_references.proofs.Words.{elements_not, elements_closed, elements_dot, elements_other, elements_unclosed}
use Rattle.sieve_references.proofs.reading.elements.Goals as goal

pub returns-then-not-is_element : goal.returns-then-not-is_element
returns-then-not-is_element c =
    let found = c.in-Some.ensures in
    sym c.elements.invariant ∙ ap elements found.2 ∙ elements_not c.in-Some.octets.now c.in-Some.end c.in-Some.after.now found.0 found.1 (sym c.is_element.ensures ∙ c.if-not-is_element.true)

pub returns-then-end-eq125 : goal.returns-then-end-eq125
returns-then-end-eq125 c =
    let found = c.in-Some.ensures in
    let one : is_element c.in-Some.octets.now ≡ true = sym c.is_element.ensures ∙ c.if-not-is_element.false in
    sym c.elements.invariant ∙ ap elements found.2
    ∙ ap (λ z. elements (c.in-Some.octets.now ++ z ∷ c.in-Some.after.now)) c.if-end-eq125.true
    ∙ elements_closed c.in-Some.octets.now c.in-Some.after.now found.0 ∙ rw one refl

pub returns-then-end-ne46 : goal.returns-then-end-ne46
returns-then-end-ne46 c =
    let found = c.in-Some.ensures in
    sym c.elements.invariant ∙ ap elements found.2
    ∙ elements_other c.in-Some.octets.now c.in-Some.end c.in-Some.after.now found.0 found.1 c.if-end-eq125.false c.if-end-ne46.true

pub elements-preserved : goal.elements-preserved
elements-preserved c =
    let found = c.in-Some.ensures in
    let one : is_element c.in-Some.octets.now ≡ true = sym c.is_element.ensures ∙ c.if-not-is_element.false in
    sym (sym c.elements.invariant ∙ ap elements found.2
    ∙ ap (λ z. elements (c.in-Some.octets.now ++ z ∷ c.in-Some.after.now)) c.if-end-ne46.false
    ∙ elements_dot c.in-Some.octets.now c.in-Some.after.now found.0 ∙ rw one refl)

pub returns : goal.returns
returns c = sym c.elements.invariant ∙ elements_unclosed c.elements.rest.now c.in_default.ensures
