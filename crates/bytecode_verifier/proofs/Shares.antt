-- What each instruction of an accepted program adds to its budget.
use Rattle.std.proofs.Common.{◌≡◌, ℕ, zero, suc, ◌+◌, ◌<◌, Bool, true, false, if◌then◌else◌, not, ◌&&◌, List, [], ◌∷◌, ◌++◌, Option, Some, None, is_some, is_none, length, slice_get, refl, sym, ap, ◌∙◌, inl, inr, arith, add-one, length-append}
use Rattle.std.specs.Option.{option_and_then, unwrap_or}
use Rattle.std.proofs.lemmas.Bool.{cases_eq}
use Rattle.bytecode_format.specs.declared.instruction.Instruction.{Instruction}
use Rattle.bytecode_format.specs.declared.operation.Operation.{Operation}
use Rattle.bytecode_format.specs.Operations.{operation_of}
use Rattle.bytecode_format.specs.Code.{Code}
use Rattle.bytecode_verifier.specs.Acceptance.{IsAccepted}
use Rattle.bytecode_verifier.specs.Rules.{breaks_stack}
use Rattle.bytecode_verifier.specs.Shape.{Entries, is_empty, is_target, entries_after, shape_after, shape_at}
use Rattle.bytecode_verifier.specs.Loops.{open_loops}
use Rattle.bytecode_verifier.specs.declared.cap.Cap.{Cap}
use Rattle.bytecode_verifier.specs.declared.share.Share.{Share}
use Rattle.bytecode_verifier.specs.Budget.{one_charge, cap_of, cap_at, share_at}
use Rattle.bytecode_verifier.specs.Pass.{Passes}
use Rattle.bytecode_verifier.proofs.Steps.{shape_more}

-- a shape that doesn't fail goes on to what was found, with its cap
found : (fails : Bool) (after : Option Entries) (passed : Option Cap) (now : Entries) (cap : Cap) → is_none (if fails then None else after) ≡ false → Passes passed now cap after
    → ((if fails then None else after) ≡ Some now) × (unwrap_or passed one_charge ≡ cap)
found true after passed now cap h p = absurd cc
found false after None now cap h p = absurd (let none : after ≡ None = p in cc)
found false after (Some c) now cap h p = (p.1, p.0)

-- the shape of an accepted program goes on over an instruction, with the cap at its place
pub shape_goes_on : (code : Code) (place : ℕ) (i : Instruction) (operation : Option Operation) (passed : Option Cap) (before now : Entries)
    → IsAccepted code → slice_get code.instructions place ≡ Some i → operation ≡ operation_of i.op → shape_at code place ≡ Some before
    → Passes passed now (cap_of operation i before) (option_and_then (λ o. entries_after code o i before) operation)
    → (shape_at code (place + 1) ≡ Some now) × (unwrap_or passed one_charge ≡ cap_at code place)
shape_goes_on code place i operation passed before now accepted here op shape passes =
    let over : Bool → Option Operation → Option Entries = λ targeted o. shape_after code targeted o i before in
    let next : shape_at code (place + 1) ≡ over (is_target code.version code.instructions place) operation =
    shape_more code place i (Some before) (over (is_target code.version code.instructions place) operation) here shape (ap (over (is_target code.version code.instructions place)) op) in
    let holds : is_none (shape_at code (place + 1)) ≡ false = holds_here (shape_at code place) (shape_at code (place + 1)) shape (at_next (accepted.stack place)) in
    let goes = found (is_target code.version code.instructions place && not (is_empty before)) (option_and_then (λ o. entries_after code o i before) operation) passed now (cap_of operation i before)
    (sym (ap is_none next) ∙ holds) passes in
    (next ∙ goes.0, goes.1 ∙ ap (λ o. cap_of o i before) op ∙ sym cap_is)
  where
    at_next : breaks_stack code place ≡ false → (is_some (shape_at code place) && is_none (shape_at code (place + 1))) ≡ false
    at_next h = rw add-one h

    holds_here : (o p : Option Entries) → o ≡ Some before → (is_some o && is_none p) ≡ false → is_none p ≡ false
    holds_here None p e h = absurd cc
    holds_here (Some entries) p e h = h

    cap_is : cap_at code place ≡ cap_of (operation_of i.op) i before
    cap_is = rw (here, shape) refl

-- the shares of the instructions below a place
pub record HasShares (code : Code) (place : ℕ) (shares : List Share) : Type 0 where
  pub number : length shares ≡ place
  pub each : (p : ℕ) → p < place → slice_get shares p ≡ Some (share_at code p)

get_kept : (shares : List Share) (last s : Share) (k : ℕ) → slice_get shares k ≡ Some s → slice_get (shares ++ last ∷ []) k ≡ Some s
get_kept [] last s k e = absurd cc
get_kept (x ∷ shares) last s zero e = e
get_kept (x ∷ shares) last s (suc k) e = get_kept shares last s k e

get_last : (shares : List Share) (last : Share) (k : ℕ) → length shares ≡ k → slice_get (shares ++ last ∷ []) k ≡ Some last
get_last [] last k e = rw (← e) refl
get_last (x ∷ shares) last zero e = absurd (omega arith)
get_last (x ∷ shares) last (suc k) e = get_last shares last k (omega arith)

-- with one more
pub one_more : (code : Code) (place : ℕ) (share : Share) (old new : List Share) → HasShares code place old → share ≡ share_at code place → new ≡ old ++ share ∷ [] → HasShares code (place + 1) new
one_more code place share old new before same grown =
    let last : new ≡ old ++ share_at code place ∷ [] = rw (grown, same) refl in
    rw last (record {
      number = length-append old (share_at code place ∷ []) ∙ omega (arith, before.number);
      each = λ p below. elim (cases_eq p place) [
        | inl same ↦ rw same (get_last old (share_at code place) place before.number)
        | inr differ ↦ get_kept old (share_at code place) (share_at code p) p (before.each p (omega arith))
      ];
    })

-- the share that was found is that at the place
pub share_found : (code : Code) (place depth : ℕ) (passed : Option Cap) (cap : Cap) → depth ≡ length (open_loops code place) → cap ≡ unwrap_or passed one_charge → unwrap_or passed one_charge ≡ cap_at code place
    → (let share : Share = record { loops = depth; cap = cap } in share) ≡ share_at code place
share_found code place depth passed cap deep same caps = rw (deep, same, caps) refl
