-- Every step of a run of an accepted program is sound, so all the states of the run are such as it may reach.
use Rattle.std.proofs.Common.{◌≡◌, ℕ, zero, suc, ◌+◌, ◌<◌, ◌≤◌, Bool, true, false, cond, List, [], ◌∷◌, Option, Some, None, All, replicate, length, slice_get, get_or, refl, sym, ap, subst, ◌∙◌, arith}
use Rattle.std.proofs.lemmas.Option.{slice_get-get_or}
use Rattle.std.proofs.lemmas.List.{length-replicate}
use Rattle.std.proofs.lemmas.List.Elements.{All-replicate, All-push, All-nil}
use Rattle.bytecode_format.specs.declared.instruction.Instruction.{Instruction}
use Rattle.bytecode_format.specs.declared.operation.Operation.{Operation}
use Rattle.bytecode_format.specs.declared.operation.Operation.TheVariants.{Halt, Literal, Variable, Capture, Join, Set, Not, Jump, JumpIfTrue, JumpIfFalse, Keep, Discard, File, Store, Each, Next, Break, Take, Test}
use Rattle.bytecode_format.specs.Operations.{operation_of}
use Rattle.bytecode_format.specs.Code.{Code}
use Rattle.std.specs.Option.{option_and_then}
use Rattle.bytecode_verifier.specs.Rows.{row_in_version, is_well_formed}
use Rattle.bytecode_verifier.specs.Shape.{Entries, shape_at}
use Rattle.bytecode_verifier.specs.Acceptance.{IsAccepted}
use Rattle.bytecode_verifier.proofs.Consequences.{well_formed}
use Rattle.bytecode_format.specs.declared.action.Action.TheVariants as action
use Rattle.mime_decode.specs.Mail.{Mail, IsMail}
use Rattle.sieve_vm.specs.State.{State, goes, traps, start}
use Rattle.sieve_vm.specs.Runs.{Run}
use Rattle.sieve_vm.specs.Charge.{charge_of}
use Rattle.sieve_vm.specs.Stores.{NamesPart}
use Rattle.sieve_vm.specs.Machine.{Effect, on, jumps, halts, fails, effect, turn, turn_of, turn_at, step, referred_in}
use Rattle.bytecode_verifier.specs.Budget.{cap_of, cap_at}
use Rattle.glob_match.specs.Matching.{max_captures}
use Rattle.sieve_vm.proofs.Charges.{charge_fits}
use Rattle.sieve_vm.proofs.Falls.{cap_there}
use Rattle.sieve_vm.proofs.Taking.{Describes}
use Rattle.sieve_vm.proofs.Reached.{IsCut, HoldsTexts, IsReached, Falls, IsSound, Leads}
use Rattle.sieve_vm.proofs.Leading.{nested, after_of, leads_still}
use Rattle.sieve_vm.proofs.StackEffects.{leads_literal, leads_variable, leads_capture, leads_join, leads_set, leads_file, leads_not, leads_jump, leads_branch}
use Rattle.sieve_vm.proofs.PartEffects.{leads_test, leads_store, leads_take}
use Rattle.sieve_vm.proofs.LoopEffects.{leads_each, leads_next, leads_break}

empty_cut : (n : ℕ) → All IsCut (replicate n [])
empty_cut n = All-replicate IsCut n [] (omega arith)

-- the turn of an effect
sound_turn : (code : Code) (mail : Mail) (from : State) (cost : ℕ) (e : Effect) → Leads code mail from e → 1 ≤ cost → cost ≤ cap_there code mail from.place → IsSound code mail from (turn cost e)
sound_turn code mail from cost (on to) leads some most =
    let charge = leads.1.charge_is in
    let next : suc to.place ≡ suc from.place = ap suc leads.0 in (
      subst (λ p. IsReached code mail (record to { place = p; charge = to.charge + cost })) (sym next) (leads.1.reached (to.charge + cost)),
      record { dearer = omega arith; within = omega arith },
      subst (λ p. Falls code mail from p to.frames) (sym next) leads.1.falls,
    )
sound_turn code mail from cost (jumps target to) leads some most =
    let charge = leads.charge_is in
    (leads.reached (to.charge + cost), record { dearer = omega arith; within = omega arith }, leads.falls)
sound_turn code mail from cost (halts to) leads some most = let charge = leads.0 in (record { dearer = omega arith; within = omega arith }, leads.1)
sound_turn code mail from cost fails leads some most = absurd leads

-- an accepted program has an instruction
instructions_there : (code : Code) → IsAccepted code → 0 < length code.instructions
instructions_there code is = go code.instructions refl
  where
    go : (xs : List Instruction) → code.instructions ≡ xs → 0 < length code.instructions
    go (x ∷ xs) e = rw e (omega arith)
    go [] e = absurd (let broken : true ≡ false = rw e at (is.end 0) in cc)

module _ (code : Code) (mail : Mail) (is : IsAccepted code) (known : IsMail mail) where
  module _ (s : State) (i : Instruction) (here : slice_get code.instructions s.place ≡ Some i) (from : IsReached code mail s) where
    abbrev entries : Entries
    entries = from.entries

    abbrev at : shape_at code s.place ≡ Some entries
    at = from.shape

    abbrev d : Describes entries s.stack
    d = from.describes

    abbrev held : HoldsTexts code.variables s.variables s.captures
    held = from.texts

    -- every operation's effect
    pub leads : (o : Operation) → operation_of i.op ≡ Some o → Leads code mail s (effect (referred_in code) mail o i s)
    leads Halt e = (refl, from.stores, refl)
    leads Literal e = leads_literal code mail is known s i here from e
    leads Variable e = leads_variable code mail is known s i here from e
    leads Capture e = leads_capture code mail is known s i here from e
    leads Join e = leads_join code mail is known s i here from e
    leads Set e = leads_set code mail is known s i here from e
    leads (Test test) e = leads_test code mail is known s i here from test e
    leads Not e = leads_not code mail is known s i here from e
    leads Jump e = leads_jump code mail is known s i here from e
    leads JumpIfTrue e = leads_branch code mail is known s i here from JumpIfTrue true e refl refl refl
    leads JumpIfFalse e = leads_branch code mail is known s i here from JumpIfFalse false e refl refl refl
    leads Keep e = leads_still code mail is known s i here from Keep _ e refl (λ x. refl) refl refl refl refl held (All-push (NamesPart mail) s.actions action.Keep from.stores tt)
    leads Discard e = leads_still code mail is known s i here from Discard _ e refl (λ x. refl) refl refl refl refl held from.stores
    leads File e = leads_file code mail is known s i here from e
    leads Store e = leads_store code mail is known s i here from e
    leads Each e = leads_each code mail is known s i here from e
    leads Next e = leads_next code mail is known s i here from e
    leads Break e = leads_break code mail is known s i here from e
    leads Take e = leads_take code mail is known s i here from e

    -- the turn of an instruction
    sound : (o : Option Operation) → operation_of i.op ≡ o → IsSound code mail s (turn_of code mail o i s)
    sound None e = absurd (let g : false ≡ true = ap (λ x. is_well_formed (option_and_then (row_in_version code.version) x) i) (sym e) ∙ well_formed code is s.place i here in cc)
    sound (Some o) e =
        let cost = charge_fits code mail is known o i s here e entries d (after_of code mail is known s i here from (Some o) e).0 (after_of code mail is known s i here from (Some o) e).1 in
        let cap : cap_at code s.place ≡ cap_of (Some o) i entries = rw (here, at, e) refl in
        subst (λ (b : Bool). IsSound code mail s (cond b (turn (charge_of (referred_in code) mail o i s) (effect (referred_in code) mail o i s)) traps)) (sym (well_formed code is s.place i here))
        (sound_turn code mail s (charge_of (referred_in code) mail o i s) (effect (referred_in code) mail o i s) (leads o e) cost.some (rw cap cost.most))

  -- a step from a state that a run may reach
  pub step_is_sound : (s : State) → IsReached code mail s → IsSound code mail s (step code mail s)
  step_is_sound s reached =
      let none : Instruction = record { op = 0; a = 0; b = 0; c = 0 } in
      let i : Instruction = get_or code.instructions s.place none in
      let here : slice_get code.instructions s.place ≡ Some i = slice_get-get_or code.instructions s.place none reached.within in
      subst (λ (o : Option Instruction). IsSound code mail s (turn_at code mail s o)) (sym here) (sound s i here reached (operation_of i.op) refl)

  -- every state of a run
  pub runs_are_reached : (n : ℕ) (from to : State) → IsReached code mail from → Run code mail n from to → IsReached code mail to
  runs_are_reached zero from to reached run = subst (IsReached code mail) run reached
  runs_are_reached (suc n) from to reached run =
      let sound_here : IsSound code mail from (goes run.0) = subst (IsSound code mail from) run.1 (step_is_sound from reached) in
      runs_are_reached n run.0 to sound_here.0 run.2

  -- the start
  pub start_is_reached : IsReached code mail (start code)
  start_is_reached =
      record {
        within = instructions_there code is;
        entries = [];
        shape = refl;
        describes = tt;
        opened = (nested code mail is known).start;
        texts = record { number = length-replicate {A = List ℕ} code.variables []; values = empty_cut code.variables; ten = refl; captured = empty_cut max_captures };
        stores = All-nil (NamesPart mail);
      }
