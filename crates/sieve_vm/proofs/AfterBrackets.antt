-- After a bracket of a loop the stack is empty.
use Rattle.std.proofs.Common.{◌≡◌, ℕ, suc, Bool, true, false, ◌&&◌, cond, [], ◌∷◌, Option, Some, None, slice_get, refl, sym, ap, ◌∙◌}
use Rattle.bytecode_format.specs.declared.instruction.Instruction.{Instruction}
use Rattle.bytecode_format.specs.declared.operation.Operation.{Operation}
use Rattle.bytecode_format.specs.declared.operation.Operation.TheVariants.{Each, Next}
use Rattle.bytecode_format.specs.Operations.{operation_of}
use Rattle.bytecode_format.specs.Code.{Code}
use Rattle.bytecode_format.proofs.Operations.{alone}
use Rattle.std.specs.Option.{option_map_or}
use Rattle.bytecode_verifier.specs.Shape.{Entries, is_empty, shape_at}
use Rattle.bytecode_verifier.specs.Places.{holds_at}
use Rattle.bytecode_verifier.specs.Loops.{opens, closes}
use Rattle.bytecode_verifier.specs.Acceptance.{IsAccepted}
use Rattle.bytecode_verifier.proofs.Consequences.{left_by, shape_known, shape_next}
use Rattle.sieve_vm.specs.Machine.{next}

first_of_two : (a b : Bool) → (a && b) ≡ true → a ≡ true
first_of_two true b h = refl
first_of_two false b h = absurd cc

opens_each : (o : Option Operation) → opens o ≡ true → o ≡ Some Each
opens_each None h = absurd cc
opens_each (Some o) h = ap Some (alone (λ o. opens (Some o)) Each refl o h)

closes_next : (o : Option Operation) → closes o ≡ true → o ≡ Some Next
closes_next None h = absurd cc
closes_next (Some o) h = ap Some (alone (λ o. closes (Some o)) Next refl o h)

-- an instruction that passes a test
held_at : (code : Code) (place : ℕ) (test : Instruction → Bool) → holds_at code place test ≡ true → (i : Instruction) × (slice_get code.instructions place ≡ Some i) × (test i ≡ true)
held_at code place test h = go (slice_get code.instructions place) refl h
  where
    go : (o : Option Instruction) → slice_get code.instructions place ≡ o → option_map_or test o false ≡ true → (i : Instruction) × (slice_get code.instructions place ≡ Some i) × (test i ≡ true)
    go None e t = absurd cc
    go (Some i) e t = (i, e, t)

empty_after : (es next : Entries) → cond (is_empty es) (Some []) None ≡ Some next → next ≡ []
empty_after [] next e = let same : [] ≡ next = cc in sym same
empty_after (x ∷ xs) next e = absurd cc

module _ (code : Code) (is : IsAccepted code) where
  -- where an operation leaves no entries there are none after it
  pub shape_after : (place : ℕ) (i : Instruction) (o : Operation) → slice_get code.instructions place ≡ Some i → operation_of i.op ≡ Some o → ((es : Entries) → left_by code (Some o) i es ≡ cond (is_empty es) (Some []) None) → shape_at code (suc place) ≡ Some []
  shape_after place i o here e takes =
      let there = shape_known code is place in
      let n = shape_next code is place i there.0 here there.1 in
      let none : n.0 ≡ [] = empty_after there.0 n.0 (sym (takes there.0) ∙ ap (λ x. left_by code x i there.0) (sym e) ∙ n.1) in
      n.2 ∙ ap (λ (x : Entries). Some x) none

  pub shape_after_each : (place : ℕ) (test : Instruction → Bool) → holds_at code place (λ i. opens (operation_of i.op) && test i) ≡ true → shape_at code (suc place) ≡ Some []
  shape_after_each place test h =
      let at = held_at code place (λ i. opens (operation_of i.op) && test i) h in
      shape_after place at.0 Each at.1 (opens_each (operation_of at.0.op) (first_of_two _ _ at.2)) (λ es. refl)

  pub shape_after_next : (place : ℕ) (test : Instruction → Bool) → holds_at code place (λ i. closes (operation_of i.op) && test i) ≡ true → shape_at code (suc place) ≡ Some []
  shape_after_next place test h =
      let at = held_at code place (λ i. closes (operation_of i.op) && test i) h in
      shape_after place at.0 Next at.1 (closes_next (operation_of at.0.op) (first_of_two _ _ at.2)) (λ es. refl)
