-- Names of operations, one octet after the other.
use Rattle.std.proofs.Common.{◌≡◌, ℕ, zero, suc, ◌+◌, ◌-◌, ◌<◌, ◌≤◌, true, false, if◌then◌else◌, List, [], ◌∷◌, drop, length, Some, None, refl, sym, ap, subst, ◌∙◌, inl, inr, arith}
use Rattle.std.specs.Prelude.{slice_get, bytes_eq}
use Rattle.std.proofs.lemmas.Bool.{cases_lt}
use Rattle.std.proofs.lemmas.Option.{slice_get_past}
use Rattle.bytecode_format.specs.Operations.{name_of, operations, operation_of}
use Rattle.bytecode_format.specs.declared.operation.Operation.{Operation}
use Rattle.bytecode_listing.specs.Names.{named_among}

here : {A : Type 0} (xs : List A) (k : ℕ) (x : A) → slice_get xs k ≡ Some x → drop k xs ≡ x ∷ drop (suc k) xs
here [] k x e = absurd cc
here {A} (y ∷ ys) zero x e = let same : y ≡ x = cc in ap (λ (z : A). z ∷ ys) same
here (y ∷ ys) (suc k) x e = here ys k x e

past : {A : Type 0} (xs : List A) (k : ℕ) → slice_get xs k ≡ None → drop k xs ≡ []
past [] zero e = refl
past [] (suc k) e = refl
past (y ∷ ys) zero e = absurd cc
past (y ∷ ys) (suc k) e = past ys k e

-- an operation's octet isn't the last octet
pub known : (octet : ℕ) (operation : Operation) → 1 ≤ octet → operation_of octet ≡ Some operation → octet < 255
known octet operation one e = elim (cases_lt octet 255) [
  | inl lt ↦ omega arith
  | inr ge ↦ beyond octet (octet - 1) (omega arith) (omega arith) e
]
  where
    beyond : (n m : ℕ) → n ≡ suc m → 254 ≤ m → operation_of n ≡ Some operation → octet < 255
    beyond n m s h e =
        let far : length operations ≤ m = omega (arith, h) in
        let none : operation_of n ≡ None = rw s (slice_get_past operations m far) in
        absurd cc

-- what is left of the table where an operation stands
at_octet : (octet m : ℕ) (operation : Operation) → octet ≡ suc m → operation_of octet ≡ Some operation → drop m operations ≡ operation ∷ drop octet operations
at_octet octet m operation s e =
    let found : slice_get operations m ≡ Some operation = subst (λ n. operation_of n ≡ Some operation) s e in
    here operations m operation found ∙ ap (λ n. operation ∷ drop n operations) (sym s)

pub named_here : (octet : ℕ) (operation : Operation) (name : List ℕ) → 1 ≤ octet → operation_of octet ≡ Some operation → bytes_eq (name_of operation) name ≡ true
    → Some octet ≡ named_among octet (drop (octet - 1) operations) name
unfolding named_among
named_here octet operation name one e same =
    sym (
    ap (λ (ops : List Operation). named_among octet ops name) (at_octet octet (octet - 1) operation (omega arith) e)
    ∙ ap (λ b. if b then Some octet else named_among (suc octet) (drop octet operations) name) same
    )

pub named_on : (octet : ℕ) (operation : Operation) (name : List ℕ) → 1 ≤ octet → operation_of octet ≡ Some operation → bytes_eq (name_of operation) name ≡ false
    → named_among (octet + 1) (drop (octet + 1 - 1) operations) name ≡ named_among octet (drop (octet - 1) operations) name
unfolding named_among
named_on octet operation name one e other =
    let next : octet + 1 - 1 ≡ octet = omega arith in
    let more : octet + 1 ≡ suc octet = omega arith in
    ap (λ n. named_among (octet + 1) (drop n operations) name) next
    ∙ ap (λ n. named_among n (drop octet operations) name) more
    ∙ sym (
    ap (λ (ops : List Operation). named_among octet ops name) (at_octet octet (octet - 1) operation (omega arith) e)
    ∙ ap (λ b. if b then Some octet else named_among (suc octet) (drop octet operations) name) other
    )

pub named_last : (octet : ℕ) (name : List ℕ) → 1 ≤ octet → operation_of octet ≡ None → None ≡ named_among octet (drop (octet - 1) operations) name
unfolding named_among
named_last octet name one e = at_end octet (octet - 1) (omega arith) e
  where
    at_end : (octet m : ℕ) → octet ≡ suc m → operation_of octet ≡ None → None ≡ named_among octet (drop m operations) name
    at_end octet m s e =
        let none : slice_get operations m ≡ None = subst (λ n. operation_of n ≡ None) s e in
        sym (ap (λ (ops : List Operation). named_among octet ops name) (past operations m none))
