-- The last instruction of an accepted program is a Halt.
use Rattle.std.proofs.Common.{◌≡◌, ◌==◌, ℕ, suc, ◌-◌, Bool, true, false, not, ◌&&◌, Option, Some, None, length, slice_get, refl, sym, ap, ◌∙◌, arith}
use Rattle.std.specs.Option.{option_map_or}
use Rattle.std.proofs.lemmas.Bool.{eq-eqb}
use Rattle.bytecode_format.specs.declared.instruction.Instruction.{Instruction}
use Rattle.bytecode_format.specs.declared.operation.Operation.{Operation}
use Rattle.bytecode_format.specs.declared.operation.Operation.TheVariants.{Halt}
use Rattle.bytecode_format.specs.Operations.{operation_of}
use Rattle.bytecode_format.specs.Code.{Code}
use Rattle.bytecode_format.proofs.Operations.{alone}
use Rattle.bytecode_verifier.specs.Places.{holds_at}
use Rattle.bytecode_verifier.specs.Rules.{is_halt}
use Rattle.bytecode_verifier.specs.Acceptance.{IsAccepted}

halts_at : (o : Option Operation) → is_halt o ≡ true → o ≡ Some Halt
halts_at None h = absurd cc
halts_at (Some o) h = ap Some (alone (λ o. is_halt (Some o)) Halt refl o h)

-- the place of the last instruction, which is a Halt
pub last_halt : (code : Code) → IsAccepted code → (place : ℕ) → suc place ≡ length code.instructions → (i : Instruction) × (slice_get code.instructions place ≡ Some i) × (operation_of i.op ≡ Some Halt)
last_halt code is place last = go (slice_get code.instructions place) refl
  where
    not_both : (a b : Bool) → a ≡ true → (a && not b) ≡ false → b ≡ true
    not_both true true t h = refl
    not_both true false t h = absurd cc
    not_both false b t h = absurd cc

    here : holds_at code place (λ i. is_halt (operation_of i.op)) ≡ true
    here = not_both (place == length code.instructions - 1) _ (eq-eqb place (length code.instructions - 1) (omega (arith, last))) (is.end place)

    go : (o : Option Instruction) → slice_get code.instructions place ≡ o → (i : Instruction) × (slice_get code.instructions place ≡ Some i) × (operation_of i.op ≡ Some Halt)
    go None e = absurd (let wrong : false ≡ true = ap (λ (x : Option Instruction). option_map_or (λ (i : Instruction). is_halt (operation_of i.op)) x false) (sym e) ∙ here in cc)
    go (Some i) e = (i, e, halts_at (operation_of i.op) (ap (λ (x : Option Instruction). option_map_or (λ (j : Instruction). is_halt (operation_of j.op)) x false) (sym e) ∙ here))
