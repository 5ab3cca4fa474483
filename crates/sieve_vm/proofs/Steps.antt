-- How the machine goes on as the run does, when it has had the effect of an instruction.
use Rattle.std.proofs.Common.{◌≡◌, ℕ, suc, ◌+◌, ◌^◌, ◌<◌, ◌≤◌, Bool, true, false, nat_lt, cond, List, [], ◌∷◌, Option, Some, None, IsSome, length, slice_get, refl, sym, ap, subst, ◌∙◌, arith}
use Rattle.bytecode_format.specs.Actions.{first_occurrences, with_implicit_keep}
use Rattle.bytecode_format.specs.declared.action.Action.{Action}
use Rattle.bytecode_format.specs.declared.instruction.Instruction.{Instruction}
use Rattle.bytecode_format.specs.declared.operation.Operation.{Operation}
use Rattle.bytecode_format.specs.Operations.{operation_of}
use Rattle.bytecode_format.specs.Code.{Code}
use Rattle.std.specs.Option.{option_and_then}
use Rattle.octets.specs.Limits.{max_stack}
use Rattle.bytecode_verifier.specs.Rows.{row_in_version, is_well_formed, is_jump}
use Rattle.bytecode_verifier.specs.Rules.{row_in}
use Rattle.bytecode_verifier.specs.Shape.{Entries, without_truth}
use Rattle.bytecode_verifier.specs.Acceptance.{IsAccepted}
use Rattle.bytecode_verifier.proofs.Consequences.{left_by, well_formed}
use Rattle.bytecode_format.specs.Spelling.{IsProgram}
use Rattle.bytecode_verifier.proofs.Budgets.{budget_small}
use Rattle.mime_decode.specs.Mail.{Mail, IsMail, size_of}
use Rattle.sieve_vm.specs.declared.machine.Machine.{Machine}
use Rattle.sieve_vm.specs.declared.machine.Position.{Position}
use Rattle.sieve_vm.specs.declared.machine.Turn as machine
use Rattle.sieve_vm.specs.declared.machine.Done.{Done}
use Rattle.sieve_vm.specs.declared.machine.Flow.{Flow}
use Rattle.sieve_vm.specs.declared.machine.Flow.TheVariants.{On, To, Ends}
use Rattle.sieve_vm.specs.State.{Value, State, Turn, goes, ends, traps, start}
use Rattle.sieve_vm.specs.Charge.{charge_of}
use Rattle.sieve_vm.specs.Machine.{Effect, on, jumps, halts, fails, push, is_sound_jump, effect, turn, turn_of, turn_at, step, referred_in}
use Rattle.sieve_vm.specs.Standing.{Represents, Stands, IsIn, GoesFrom, HasDone}
use Rattle.sieve_vm.specs.Ending.{IsOutcome}
use Rattle.sieve_vm.specs.Going.{StandsFor, gone}
use Rattle.sieve_vm.specs.Runs.{RunEnds}
use Rattle.sieve_vm.proofs.Taking.{Describes}
use Rattle.sieve_vm.proofs.Reached.{IsReached, IsSound, Leads, TopTruth, top_truth, without_truth-some}
use Rattle.sieve_vm.proofs.SoundSteps.{leads, step_is_sound}
use Rattle.sieve_vm.proofs.Leading.{after_of, sound_jump}
use Rattle.sieve_vm.specs.Potential.{limit_of}
use Rattle.sieve_vm.proofs.Bounds.{reached, spent, ends_within, Run-push}

-- what a read past the end would give
abbrev pub no_instruction : Instruction
no_instruction = record { op = 0; a = 0; b = 0; c = 0 }

-- a push that leads on has room
pub pushed : (code : Code) (mail : Mail) (from : State) (value : Value) (t : State) → Leads code mail from (push value t) → push value t ≡ on (record t { stack = value ∷ t.stack })
pushed code mail from value t fits = go (nat_lt (length t.stack) max_stack) fits
  where
    go : (b : Bool) → Leads code mail from (cond b (on (record t { stack = value ∷ t.stack })) fails) → cond b (on (record t { stack = value ∷ t.stack })) fails ≡ on (record t { stack = value ∷ t.stack })
    go true h = refl
    go false h = absurd h

module _ (code : Code) (mail : Mail) (is : IsAccepted code) (known : IsMail mail) (pos : Position) (m : Machine) (s : State) (at : IsIn code mail s pos m) where
  abbrev there : IsReached code mail s
  there = reached code mail is known at.steps s at.run

  -- the machine is at an instruction
  pub place_within : pos.place < length code.instructions
  place_within = rw at.stands.place there.within

  module _ (i : Instruction) (here : slice_get code.instructions pos.place ≡ Some i) where
    pub here_is : slice_get code.instructions s.place ≡ Some i
    here_is = ap (slice_get code.instructions) (sym at.stands.place) ∙ here

    form : is_well_formed (row_in code i) i ≡ true
    form = well_formed code is s.place i here_is

    -- its octet names an operation
    pub operation_there : IsSome (operation_of i.op)
    operation_there = go (operation_of i.op) refl
      where
        go : (x : Option Operation) → operation_of i.op ≡ x → IsSome (operation_of i.op)
        go (Some operation) e = rw e refl
        go None e = absurd (let both : false ≡ true = ap (λ x. is_well_formed (option_and_then (row_in_version code.version) x) i) (sym e) ∙ form in cc)

    module _ (o : Operation) (named : operation_of i.op ≡ Some o) where
      pub after : (next : Entries) × (left_by code (Some o) i there.entries ≡ Some next)
      after = after_of code mail is known s i here_is there (Some o) named

      -- the step is the turn of what the operation does
      pub stepped : step code mail s ≡ turn (charge_of (referred_in code) mail o i s) (effect (referred_in code) mail o i s)
      stepped =
          ap (turn_at code mail s) here_is ∙ ap (λ x. turn_of code mail x i s) named ∙ turned (is_well_formed (row_in code i) i) form
        where
          turned : (b : Bool) → b ≡ true → cond b (turn (charge_of (referred_in code) mail o i s) (effect (referred_in code) mail o i s)) traps ≡ turn (charge_of (referred_in code) mail o i s) (effect (referred_in code) mail o i s)
          turned true e = refl
          turned false e = absurd (cc)

      -- and that leads on
      pub fine : Leads code mail s (effect (referred_in code) mail o i s)
      fine = leads code mail is known s i here_is there o named

      pub jumps_soundly : is_jump (row_in_version code.version o) ≡ true → is_sound_jump (referred_in code) s i ≡ true
      jumps_soundly jump = sound_jump code mail is known s i here_is there (ap (λ x. is_jump (option_and_then (row_in_version code.version) x)) named ∙ jump)

      pub branch_top : left_by code (Some o) i there.entries ≡ without_truth there.entries → (es : Entries) × TopTruth s.stack es
      branch_top takes =
          let w = without_truth-some there.entries after.0 (sym takes ∙ after.1) in
          ([], top_truth [] s.stack (subst (λ (x : Entries). Describes x s.stack) w.0 there.describes))

-- of the place and the charge of a state the machine says nothing
elsewhere : (mail : Mail) (s : State) (m : Machine) (place charge : ℕ) → Represents mail s m → Represents mail (record s { place = place; charge = charge }) m
elsewhere mail s m place charge h = record { work = h.work; mail_is = h.mail_is; frames = h.frames; actions = h.actions; implicit_keep = h.implicit_keep }

-- with the effect of an instruction the machine stands for the turn of the effect
stands_after : (code : Code) (mail : Mail) (s : State) (pos : Position) (cost : ℕ) (m : Machine) → pos.place ≡ s.place → pos.charged ≡ s.charge
    → (e : Effect) (flow : Flow) → Leads code mail s e → GoesFrom mail e flow m → StandsFor mail (turn cost e) (gone pos cost flow) m
stands_after code mail s pos cost m place charge (on to) On fine had =
    (refl, record { place = omega (arith, place, fine.0); charge = omega (arith, charge, fine.1.charge_is); holds = elsewhere mail to m (suc to.place) (to.charge + cost) had })
stands_after code mail s pos cost m place charge (jumps target to) (To there) fine had =
    (refl, record { place = had.0; charge = omega (arith, charge, fine.charge_is); holds = elsewhere mail to m target (to.charge + cost) had.1 })
stands_after code mail s pos cost m place charge (halts to) Ends fine had =
    (refl, record { place = place ∙ sym fine.2; charge = omega (arith, charge, fine.0); holds = elsewhere mail to m to.place (to.charge + cost) had })
stands_after code mail s pos cost m place charge _ _ fine had = absurd had

gone_charged : (pos : Position) (cost : ℕ) (flow : Flow) → (gone pos cost flow).position.charged ≡ pos.charged + cost
gone_charged pos cost On = refl
gone_charged pos cost (To place) = refl
gone_charged pos cost Ends = refl

-- the budget fits the machine's number
pub limit_small : (code : Code) (mail : Mail) → IsProgram code → IsMail mail → limit_of code mail < 2 ^ 128
limit_small code mail fits is = budget_small code fits (size_of mail) (length mail.parts) is.small is.few_parts

module _ (code : Code) (mail : Mail) (is : IsAccepted code) (known : IsMail mail) (pos : Position) (m : Machine) (s : State) (at : IsIn code mail s pos m) where
  -- a step is charged, and with it all that was charged is within the budget
  pub charged_on : (turn : machine.Turn) (m' : Machine) → StandsFor mail (step code mail s) turn m' → (pos.charged < turn.position.charged) × (turn.position.charged ≤ limit_of code mail)
  charged_on turn m' stands = go (step code mail s) refl stands
    where
      sound : (t : Turn) → step code mail s ≡ t → IsSound code mail s t
      sound t one = subst (IsSound code mail s) one (step_is_sound code mail is known s (reached code mail is known at.steps s at.run))

      go : (t : Turn) → step code mail s ≡ t → StandsFor mail t turn m' → (pos.charged < turn.position.charged) × (turn.position.charged ≤ limit_of code mail)
      go (goes to) one h =
          let dearer = (sound (goes to) one).1.dearer in
          let all = spent code mail is known (suc at.steps) to (Run-push code mail at.steps (start code) s to at.run one) in
          (omega (arith, dearer, h.1.charge, at.stands.charge), omega (arith, all.0, h.1.charge))
      go (ends end) one h =
          let dearer = (sound (ends end) one).0.dearer in
          let all = ends_within code mail is known end (record { steps = at.steps; last = s; run = at.run; halts = one }) in
          (omega (arith, dearer, h.1.charge, at.stands.charge), omega (arith, all, h.1.charge))
      go traps one h = absurd h

  module _ (i : Instruction) (here : slice_get code.instructions pos.place ≡ Some i) (o : Operation) (named : operation_of i.op ≡ Some o) (done : Done) (m' : Machine) (had : HasDone mail (effect (referred_in code) mail o i s) (charge_of (referred_in code) mail o i s) done m') where
    -- with the effect of its instruction the machine stands for what the step comes to
    pub steps_to : StandsFor mail (step code mail s) (gone pos (1 + done.cost) done.flow) m'
    steps_to =
        let e : Effect = effect (referred_in code) mail o i s in
        subst (λ t. StandsFor mail t (gone pos (1 + done.cost) done.flow) m')
        (ap (λ n. turn n e) had.1 ∙ sym (stepped code mail is known pos m s at i here o named))
        (stands_after code mail s pos (1 + done.cost) m' at.stands.place at.stands.charge e done.flow (fine code mail is known pos m s at i here o named) had.0)

    -- what it is charged fits
    pub charge_fits_in : IsProgram code → pos.charged + (1 + done.cost) < 2 ^ 128
    charge_fits_in fits =
        let within = (charged_on (gone pos (1 + done.cost) done.flow) m' steps_to).1 in
        omega (arith, within, gone_charged pos (1 + done.cost) done.flow, limit_small code mail fits known)

-- a machine at the end of a run holds its outcome
pub outcome_of : (code : Code) (mail : Mail) (end : State) (pos : Position) (m : Machine) (actions : List Action) → RunEnds code mail end → Stands mail end pos m
    → actions ≡ with_implicit_keep m.actions m.implicit_keep → IsOutcome code mail actions pos.charged
outcome_of code mail end pos m actions over stands e =
    record {
      end = end;
      over = over;
      actions_are = e ∙ ap (λ l. with_implicit_keep l m.implicit_keep) stands.holds.actions ∙ ap (λ k. with_implicit_keep (first_occurrences end.actions) k) stands.holds.implicit_keep;
      charge_is = stands.charge;
    }
