-- The same program in version 2: it is accepted where it was before, and its loops, its shape and its caps are the same.
use Rattle.std.proofs.Common.{◌≡◌, ℕ, zero, suc, ◌≤◌, Bool, true, false, cond, if◌then◌else◌, not, ◌&&◌, ◌||◌, ◌==◌, nat_le, List, [], ◌∷◌, Option, Some, None, is_some, is_none, length, slice_get, refl, sym, ap, subst, ◌∙◌}
use Rattle.std.specs.Option.{option_and_then, option_map, option_map_or}
use Rattle.bytecode_format.specs.declared.instruction.Instruction.{Instruction}
use Rattle.bytecode_format.specs.declared.operation.Operation.{Operation}
use Rattle.bytecode_format.specs.Operations.{operation_of}
use Rattle.bytecode_format.specs.Code.{Code}
use Rattle.bytecode_format.proofs.Operations.{each}
use Rattle.bytecode_cost.specs.Sums.{Sums, budget_at}
use Rattle.bytecode_verifier.specs.Places.{holds_at, sum_below}
use Rattle.bytecode_verifier.specs.Loops.{open_loops, same_loops}
use Rattle.bytecode_verifier.specs.declared.row.Row.{Row}
use Rattle.bytecode_verifier.specs.Rows.{row_of, row_in_version, row_named, is_well_formed, is_jump, needs_part}
use Rattle.bytecode_verifier.specs.Shape.{is_target, shape_at}
use Rattle.bytecode_verifier.specs.Rules.{row_in, misses_index}
use Rattle.bytecode_verifier.specs.declared.cap.Cap.{Cap}
use Rattle.bytecode_verifier.specs.Budget.{cap_at, sum_inside, sums_inside, budget_of}
use Rattle.bytecode_verifier.specs.Acceptance.{IsAccepted}
use Rattle.bytecode_cost.proofs.Chains.{budget_below}
use Rattle.bytecode_verifier.proofs.Consequences.{well_formed}

-- ---- the rows

-- an instruction that a version allows has the same row in version 2
row_kept : (version : ℕ) (row : Row) (i : Instruction) → (let found : Option Row = if row.since_two && not (version == 2) then None else Some row in is_well_formed found i) ≡ true
    → (let found : Option Row = if row.since_two && not (version == 2) then None else Some row in found) ≡ (let found : Option Row = if row.since_two && not (2 == 2) then None else Some row in found)
row_kept version row i h = pick row.since_two (version == 2) h
  where
    pick : (since_two in_two : Bool) → is_well_formed (cond (since_two && not in_two) None (Some row)) i ≡ true → cond (since_two && not in_two) None (Some row) ≡ cond (since_two && not true) None (Some row)
    pick true true h = refl
    pick true false h = absurd cc
    pick false in_two h = refl

row_named_kept : (version : ℕ) (o : Option Operation) (i : Instruction) → is_well_formed (option_and_then (row_in_version version) o) i ≡ true → option_and_then (row_in_version version) o ≡ option_and_then (row_in_version 2) o
row_named_kept version None i h = refl
row_named_kept version (Some o) i h = row_kept version (row_of o) i h

-- each instruction of an accepted program has the same row in version 2
pub row_same : (code : Code) → IsAccepted code → (place : ℕ) (i : Instruction) → slice_get code.instructions place ≡ Some i → row_in code i ≡ row_in (record code { version = 2 }) i
row_same code is place i here = row_named_kept code.version (operation_of i.op) i (well_formed code is place i here)

-- ---- jumps

-- no jump is of version 2 alone
no_new_jump : (o : Operation) → not ((row_of o).since_two && (row_of o).jumps) ≡ true
no_new_jump = each (λ o. not ((row_of o).since_two && (row_of o).jumps)) refl

jump_kept : (version : ℕ) (o : Operation) → is_jump (row_in_version version o) ≡ (row_of o).jumps
jump_kept version o = pick (row_of o).since_two (version == 2) (row_of o).jumps refl (no_new_jump o)
  where
    pick : (since_two in_two jumps : Bool) → (row_of o).jumps ≡ jumps → not (since_two && jumps) ≡ true → is_jump (cond (since_two && not in_two) None (Some (row_of o))) ≡ jumps
    pick true true jumps e none = e
    pick true false true e none = absurd cc
    pick true false false e none = refl
    pick false in_two jumps e none = e

-- an octet names a jump in every version or in none
pub jump_named : (version : ℕ) (o : Option Operation) → is_jump (option_and_then (row_in_version version) o) ≡ is_jump (option_map row_of o)
jump_named version None = refl
jump_named version (Some o) = jump_kept version o

pub is_jump_same : (first second octet : ℕ) → is_jump (row_named first octet) ≡ is_jump (row_named second octet)
is_jump_same first second octet = jump_named first (operation_of octet) ∙ sym (jump_named second (operation_of octet))

-- a place is a target in every version or in none
pub is_target_same : (first second : ℕ) (instructions : List Instruction) (place : ℕ) → is_target first instructions place ≡ is_target second instructions place
is_target_same first second [] place = refl
is_target_same first second (i ∷ rest) place = rw (is_jump_same first second i.op, is_target_same first second rest place) refl

-- ---- loops, the shape and the caps

pub shape_at_same : (code : Code) (version place : ℕ) → shape_at (record code { version = version }) place ≡ shape_at code place
shape_at_same code version zero = refl
shape_at_same code version (suc place) = rw (shape_at_same code version place, is_target_same version code.version code.instructions place) refl

pub cap_at_same : (code : Code) (version place : ℕ) → cap_at (record code { version = version }) place ≡ cap_at code place
cap_at_same code version place = rw (shape_at_same code version place) refl

-- ---- acceptance

-- tests that say the same of the instruction at a place
held : (code : Code) (place : ℕ) (first second : Instruction → Bool) → ((i : Instruction) → slice_get code.instructions place ≡ Some i → first i ≡ second i) → holds_at code place first ≡ holds_at code place second
held code place first second same = go (slice_get code.instructions place) refl
  where
    go : (o : Option Instruction) → slice_get code.instructions place ≡ o → option_map_or first o false ≡ option_map_or second o false
    go None here = refl
    go (Some i) here = same i here

-- an accepted program is accepted in version 2
pub accepted_in_two : (code : Code) → IsAccepted code → IsAccepted (record code { version = 2 })
accepted_in_two code is =
    let two : Code = record code { version = 2 } in
    let aimed : Instruction → ℕ → Bool = λ i place. nat_le i.c place || nat_le (length code.instructions) i.c || not (same_loops code place i.c) in
    record {
      index = λ place.
          held code place (λ i. misses_index two (row_in two i) i) (λ i. misses_index code (row_in code i) i) (λ i here. ap (λ row. misses_index two row i) (sym (row_same code is place i here))) ∙ is.index place;
      form = λ place.
          held code place (λ i. not (is_well_formed (row_in two i) i)) (λ i. not (is_well_formed (row_in code i) i)) (λ i here. ap (λ row. not (is_well_formed row i)) (sym (row_same code is place i here))) ∙ is.form place;
      end = is.end;
      loop = is.loop;
      jump = λ place.
          held code place (λ i. is_jump (row_in two i) && aimed i place) (λ i. is_jump (row_in code i) && aimed i place) (λ i here. ap (λ row. is_jump row && aimed i place) (sym (row_same code is place i here))) ∙ is.jump place;
      no_part = λ place.
          held code place (λ i. needs_part (row_in two i) && (length (open_loops code place) == 0)) (λ i. needs_part (row_in code i) && (length (open_loops code place) == 0)) (λ i here. ap (λ row. needs_part row && (length (open_loops code place) == 0)) (sym (row_same code is place i here))) ∙ is.no_part place;
      stack = λ place.
          ap (λ o. is_some o && is_none (shape_at two (suc place))) (shape_at_same code 2 place) ∙ ap (λ o. is_some (shape_at code place) && is_none o) (shape_at_same code 2 (suc place)) ∙ is.stack place;
    }

-- ---- the budget

sums_below_same : (f g : ℕ → ℕ) (n : ℕ) → ((place : ℕ) → f place ≡ g place) → sum_below f n ≡ sum_below g n
sums_below_same f g zero same = refl
sums_below_same f g (suc n) same = rw (sums_below_same f g n same, same n) refl

sum_inside_same : (part : Cap → ℕ) (code : Code) (version k : ℕ) → sum_inside part (record code { version = version }) k ≡ sum_inside part code k
sum_inside_same part code version k = sums_below_same _ _ (length code.instructions) (λ place. rw (cap_at_same code version place) refl)

-- the sums don't look at the version
pub sums_inside_same : (part : Cap → ℕ) (code : Code) (version : ℕ) → sums_inside part (record code { version = version }) ≡ sums_inside part code
sums_inside_same part code version = rw (sum_inside_same part code version 0, sum_inside_same part code version 1, sum_inside_same part code version 2, sum_inside_same part code version 3) refl

pub budget_in : (code : Code) (version : ℕ) → budget_of (record code { version = version }) ≡ record (budget_of code) { version = version }
budget_in code version = rw (sums_inside_same (λ cap. cap.fixed) code version, sums_inside_same (λ cap. cap.scaled) code version) refl

pub budget_no_larger : (code : Code) (n p : ℕ) → budget_at (budget_of (record code { version = 2 })) n p ≤ budget_at (budget_of code) n p
budget_no_larger code n p = subst (λ (sums : Sums). budget_at sums n p ≤ budget_at (budget_of code) n p) (sym (budget_in code 2)) (budget_below (budget_of code) n p)
