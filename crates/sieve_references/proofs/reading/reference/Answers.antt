use Rattle.std.proofs.Common.{◌≡◌, ◌∙◌, ◌∷◌, ◌++◌, option_map, ap, sym, refl, false, true}
use Rattle.sieve_references.specs.References.{foreign, is_identifier}
use Rattle.sieve_references.specs.Reading.{reference}
use Rattle.sieve_references.proofs.Words.{found_with, reference_unclosed, reference_closed, reference_dot, reference_other}
use Rattle.sieve_references.proofs.reading.reference.Goals as goal
use Rattle.sieve_references.proofs.reading.reference.Goals.{else-end-eq46-via-then-end-eq46+else-is_identifier, else-end-eq46-via-else-end-eq46}

pub returns-in_err-octets : goal.returns-in_err-octets
returns-in_err-octets c = rw c.from_residual.ensures (reference_unclosed c.args.text.now c.in_err-octets.ensures)

pub returns-in_err-named : goal.returns-in_err-named
returns-in_err-named c =
    let found = c.in_ok-octets.ensures in
    rw c.from_residual-in_err-named.ensures
    (ap reference found.2
    ∙ ap (λ z. reference (c.in_ok-octets.octets.now ++ z ∷ c.in_ok-octets.after.now)) c.if-end-eq125.true
    ∙ reference_closed c.in_ok-octets.octets.now c.in_ok-octets.after.now found.0
    ∙ ap (option_map (found_with c.in_ok-octets.after.now)) c.in_err-named.ensures)

pub returns-then-end-eq125 : goal.returns-then-end-eq125
returns-then-end-eq125 c =
    let found = c.in_ok-octets.ensures in
    ap reference found.2
    ∙ ap (λ z. reference (c.in_ok-octets.octets.now ++ z ∷ c.in_ok-octets.after.now)) c.if-end-eq125.true
    ∙ reference_closed c.in_ok-octets.octets.now c.in_ok-octets.after.now found.0
    ∙ ap (option_map (found_with c.in_ok-octets.after.now)) c.in_ok-named.ensures

pub returns-in_err-elements : goal.returns-in_err-elements
returns-in_err-elements c =
    let found = c.in_ok-octets.ensures in
    let name : is_identifier c.in_ok-octets.octets.now ≡ true = sym c.is_identifier.ensures ∙ c.if-is_identifier.true in
    rw c.from_residual-in_err-elements.ensures
    (ap reference found.2
    ∙ ap (λ z. reference (c.in_ok-octets.octets.now ++ z ∷ c.in_ok-octets.after.now)) c.if-end-eq46.true
    ∙ reference_dot c.in_ok-octets.octets.now c.in_ok-octets.after.now found.0 ∙ rw name (ap (option_map (λ rest. found_with rest foreign)) c.in_err-elements.ensures))

pub returns-then-is_identifier : goal.returns-then-is_identifier
returns-then-is_identifier c =
    let found = c.in_ok-octets.ensures in
    let name : is_identifier c.in_ok-octets.octets.now ≡ true = sym c.is_identifier.ensures ∙ c.if-is_identifier.true in
    ap reference found.2
    ∙ ap (λ z. reference (c.in_ok-octets.octets.now ++ z ∷ c.in_ok-octets.after.now)) c.if-end-eq46.true
    ∙ reference_dot c.in_ok-octets.octets.now c.in_ok-octets.after.now found.0 ∙ rw name (ap (option_map (λ rest. found_with rest foreign)) c.in_ok-elements.ensures)

pub returns : goal.returns
returns c =
    let found = c.in_ok-octets.ensures in
    ap reference found.2
    ∙ elim c.else-end-eq46.branch [
      | else-end-eq46-via-then-end-eq46+else-is_identifier w ↦
          let other : is_identifier c.in_ok-octets.octets.now ≡ false = sym w.is_identifier.ensures ∙ w.if-is_identifier.false in
          ap (λ z. reference (c.in_ok-octets.octets.now ++ z ∷ c.in_ok-octets.after.now)) w.if-end-eq46.true
          ∙ reference_dot c.in_ok-octets.octets.now c.in_ok-octets.after.now found.0 ∙ rw other refl
      | else-end-eq46-via-else-end-eq46 w ↦
          reference_other c.in_ok-octets.octets.now c.in_ok-octets.end c.in_ok-octets.after.now found.0 found.1 c.if-end-eq125.false w.if-end-eq46.false
    ]
