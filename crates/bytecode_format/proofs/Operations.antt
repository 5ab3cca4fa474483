-- What holds of each operation, by going over the list of them.
use Rattle.std.proofs.Common.{◌≡◌, ℕ, zero, suc, Bool, true, false, not, ◌&&◌, ◌||◌, ◌==◌, List, [], ◌∷◌, Some, slice_get, refl, sym, ap, ◌∙◌}
use Rattle.std.proofs.lemmas.Bool.{eqb-true}
use Rattle.std.specs.List.{list_all}
use Rattle.bytecode_format.specs.declared.operation.Operation.{Operation}
use Rattle.bytecode_format.specs.declared.operation.Operation.TheVariants.{Test}
use Rattle.bytecode_format.specs.declared.operation.TestOperation.{TestOperation}
use Rattle.bytecode_format.specs.declared.operation.TestOperation.TheVariants.{Constant}
use Rattle.bytecode_format.specs.Operations.{operations, operation_of, octet_of, octet_of_test}

-- the octet of a test names it
test_named : (test : TestOperation) → operation_of (octet_of_test test) ≡ Some (Test test)
test_named Constant = refl
test_named _ = refl

-- the octet of an operation names it
pub named : (o : Operation) → operation_of (octet_of o) ≡ Some o
named (Test test) = test_named test
named _ = refl

-- an element of a list whose elements all pass a test
passes : (test : Operation → Bool) (os : List Operation) (n : ℕ) (o : Operation) → list_all test os ≡ true → slice_get os n ≡ Some o → test o ≡ true
passes test [] n o all here = absurd cc
passes test (x ∷ os) zero o all here = let same : x ≡ o = cc in ap test (sym same) ∙ first (test x) (list_all test os) all
  where
    first : (a b : Bool) → (a && b) ≡ true → a ≡ true
    first true b h = refl
    first false b h = absurd cc
passes test (x ∷ os) (suc n) o all here = passes test os n o (others (test x) (list_all test os) all) here
  where
    others : (a b : Bool) → (a && b) ≡ true → b ≡ true
    others true b h = h
    others false b h = absurd cc

-- each operation passes a test that those of the list pass
pub each : (test : Operation → Bool) → list_all test operations ≡ true → (o : Operation) → test o ≡ true
each test all o = go (octet_of o) (named o)
  where
    go : (n : ℕ) → operation_of n ≡ Some o → test o ≡ true
    go zero here = absurd cc
    go (suc n) here = passes test operations n o all here

-- an operation that passes a test is the one that alone of the list passes it
pub alone : (test : Operation → Bool) (only : Operation) → list_all (λ o. not (test o) || (octet_of o == octet_of only)) operations ≡ true → (o : Operation) → test o ≡ true → o ≡ only
alone test only all o passed =
    let same : octet_of o ≡ octet_of only = eqb-true (octet_of o) (octet_of only) (second (test o) (octet_of o == octet_of only) passed (each (λ p. not (test p) || (octet_of p == octet_of only)) all o)) in
    let both : Some o ≡ Some only = sym (named o) ∙ ap operation_of same ∙ named only in
    cc
  where
    second : (a b : Bool) → a ≡ true → (not a || b) ≡ true → b ≡ true
    second true b t h = h
    second false b t h = absurd cc
