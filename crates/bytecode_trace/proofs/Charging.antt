-- What the steps of a run charge.
use Rattle.std.proofs.Common.{◌≡◌, ℕ, zero, suc, ◌+◌, ◌-◌, ◌<◌, Bool, true, false, cond, [], Option, Some, None, All, slice_get, refl, sym, ap, subst, ◌∙◌, arith}
use Rattle.std.proofs.lemmas.List.Elements.{All-cons, All-nil}
use Rattle.std.proofs.lemmas.List.Sums.{sum_by-cons}
use Rattle.std.specs.List.{sum_by}
use Rattle.bytecode_format.specs.Code.{Code}
use Rattle.bytecode_format.specs.Operations.{operation_of}
use Rattle.bytecode_format.specs.declared.instruction.Instruction.{Instruction}
use Rattle.bytecode_format.specs.declared.operation.Operation.{Operation}
use Rattle.bytecode_verifier.specs.Acceptance.{IsAccepted}
use Rattle.bytecode_verifier.specs.Rows.{is_well_formed}
use Rattle.bytecode_verifier.specs.Rules.{row_in}
use Rattle.mime_decode.specs.Mail.{Mail, IsMail}
use Rattle.sieve_vm.specs.State.{State, Turn, goes, ends, traps}
use Rattle.sieve_vm.specs.Charge.{charge_of}
use Rattle.sieve_vm.specs.Machine.{Effect, on, jumps, halts, fails, effect, turn, turn_of, turn_at, step, referred_in}
use Rattle.sieve_vm.specs.Moment.{state_in}
use Rattle.sieve_vm.specs.Runs.{Run}
use Rattle.sieve_vm.proofs.Reached.{IsReached, IsSound, Leads}
use Rattle.sieve_vm.proofs.SoundSteps.{leads, step_is_sound}
use Rattle.bytecode_trace.specs.Steps.{IsCharged, TakenStep, and_then, steps_from}

-- an effect charges nothing itself
charged_by : (code : Code) (mail : Mail) (s : State) (cost : ℕ) (e : Effect) (t : State) → Leads code mail s e → state_in (turn cost e) ≡ Some t → t.charge ≡ s.charge + cost
charged_by code mail s cost (on to) t fine is =
    let same : record to { place = suc to.place; charge = to.charge + cost } ≡ t = cc in
    sym (ap (λ (x : State). x.charge) same) ∙ ap (λ n. n + cost) fine.1.charge_is
charged_by code mail s cost (jumps target to) t fine is =
    let same : record to { place = target; charge = to.charge + cost } ≡ t = cc in
    sym (ap (λ (x : State). x.charge) same) ∙ ap (λ n. n + cost) fine.charge_is
charged_by code mail s cost (halts to) t fine is =
    let same : record to { charge = to.charge + cost } ≡ t = cc in
    sym (ap (λ (x : State). x.charge) same) ∙ ap (λ n. n + cost) fine.0
charged_by code mail s cost fails t fine is = absurd fine

module _ (code : Code) (mail : Mail) (is : IsAccepted code) (known : IsMail mail) where
  -- a step from a state that a run may reach
  pub charged_step : (s t : State) → IsReached code mail s → state_in (step code mail s) ≡ Some t → IsCharged code mail (record { before = s; after = t })
  charged_step s t there e = at_place (slice_get code.instructions s.place) refl e
    where
      formed : (i : Instruction) (o : Operation) (b : Bool) → is_well_formed (row_in code i) i ≡ b → slice_get code.instructions s.place ≡ Some i → operation_of i.op ≡ Some o → state_in (cond b (turn (charge_of (referred_in code) mail o i s) (effect (referred_in code) mail o i s)) traps) ≡ Some t → IsCharged code mail (record { before = s; after = t })
      formed i o true well here named f = record {
        instruction = i;
        operation = o;
        here = here;
        named = named;
        charge_is = charged_by code mail s (charge_of (referred_in code) mail o i s) (effect (referred_in code) mail o i s) t (leads code mail is known s i here there o named) f;
      }
      formed i o false well here named f = absurd cc

      named_so : (i : Instruction) (x : Option Operation) → operation_of i.op ≡ x → slice_get code.instructions s.place ≡ Some i → state_in (turn_of code mail x i s) ≡ Some t → IsCharged code mail (record { before = s; after = t })
      named_so i (Some o) named here f = formed i o (is_well_formed (row_in code i) i) refl here named f
      named_so i None named here f = absurd cc

      at_place : (x : Option Instruction) → slice_get code.instructions s.place ≡ x → state_in (turn_at code mail s x) ≡ Some t → IsCharged code mail (record { before = s; after = t })
      at_place (Some i) here f = named_so i (operation_of i.op) refl here f
      at_place None here f = absurd cc

  -- each of the steps from there
  pub all_charged : (most : ℕ) (s : State) → IsReached code mail s → All (IsCharged code mail) (steps_from code mail most s)
  all_charged zero s there = All-nil (IsCharged code mail)
  all_charged (suc most) s there = by_turn (step code mail s) refl (λ t at. all_charged most t at)
    where
      by_turn : (u : Turn) → step code mail s ≡ u → ((t : State) → IsReached code mail t → All (IsCharged code mail) (steps_from code mail most t)) → All (IsCharged code mail) (and_then s u (steps_from code mail most))
      by_turn (goes t) e others =
          let sound : IsSound code mail s (goes t) = subst (IsSound code mail s) e (step_is_sound code mail is known s there) in
          All-cons (IsCharged code mail) (record { before = s; after = t }) (steps_from code mail most t) (charged_step s t there (ap state_in e)) (others t sound.0)
      by_turn (ends t) e others = All-cons (IsCharged code mail) (record { before = s; after = t }) [] (charged_step s t there (ap state_in e)) (All-nil (IsCharged code mail))
      by_turn traps e others = All-nil (IsCharged code mail)

  -- along a run up to its end
  pub charged_in_all : (n most : ℕ) (from last end : State) → n < most → IsReached code mail from → Run code mail n from last → step code mail last ≡ ends end → sum_by (λ (taken : TakenStep). taken.after.charge - taken.before.charge) (steps_from code mail most from) + from.charge ≡ end.charge
  charged_in_all n zero from last end below there run last_one = absurd (omega (arith, below))
  charged_in_all zero (suc most) from last end below there run last_one =
      let one : step code mail from ≡ ends end = subst (λ s. step code mail s ≡ ends end) (sym run) last_one in
      let sound : IsSound code mail from (ends end) = subst (IsSound code mail from) one (step_is_sound code mail is known from there) in
      let sum = sum_by-cons (λ (taken : TakenStep). taken.after.charge - taken.before.charge) (record { before = from; after = end }) [] in
      ap (λ u. sum_by (λ (taken : TakenStep). taken.after.charge - taken.before.charge) (and_then from u (steps_from code mail most)) + from.charge) one
      ∙ omega (arith, sum, sound.0.dearer)
  charged_in_all (suc n) (suc most) from last end below there run last_one =
      let sound : IsSound code mail from (goes run.0) = subst (IsSound code mail from) run.1 (step_is_sound code mail is known from there) in
      let rest = charged_in_all n most run.0 last end (omega (arith, below)) sound.0 run.2 last_one in
      let sum = sum_by-cons (λ (taken : TakenStep). taken.after.charge - taken.before.charge) (record { before = from; after = run.0 }) (steps_from code mail most run.0) in
      ap (λ u. sum_by (λ (taken : TakenStep). taken.after.charge - taken.before.charge) (and_then from u (steps_from code mail most)) + from.charge) run.1
      ∙ omega (arith, sum, rest, sound.1.dearer)
