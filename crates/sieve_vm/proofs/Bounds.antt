-- What the runs of an accepted program come to.
use Rattle.std.proofs.Common.{◌≡◌, ◌≢◌, ℕ, zero, suc, ◌+◌, ◌<◌, ◌≤◌, Bool, true, false, not, ◌&&◌, cond, List, [], ◌∷◌, ◌++◌, filter, All, refl, sym, subst, ◌∙◌, arith}
use Rattle.std.proofs.lemmas.List.Elements.{All-cons, All-filter, All-push}
use Rattle.octets.specs.Once.{each_once}
use Rattle.bytecode_format.specs.Action.{is_same}
use Rattle.bytecode_format.specs.Actions.{first_occurrences, is_listed}
use Rattle.bytecode_format.specs.declared.action.Action.{Action}
use Rattle.bytecode_format.specs.declared.action.Action.TheVariants.{Keep}
use Rattle.sieve_vm.specs.Ending.{IsOutcome}
use Rattle.bytecode_format.specs.Code.{Code}
use Rattle.bytecode_verifier.specs.Acceptance.{IsAccepted}
use Rattle.mime_decode.specs.Mail.{Mail, IsMail}
use Rattle.sieve_vm.specs.State.{State, Turn, goes, ends, traps, start}
use Rattle.sieve_vm.specs.Machine.{step}
use Rattle.sieve_vm.specs.Runs.{Run, RunEnds}
use Rattle.sieve_vm.specs.Potential.{potential, limit_of}
use Rattle.sieve_vm.specs.Stores.{NamesPart}
use Rattle.bytecode_verifier.proofs.Nesting.{nesting}
use Rattle.sieve_vm.proofs.Opened.{open-length, inside}
use Rattle.sieve_vm.proofs.Reached.{IsReached, IsSound}
use Rattle.sieve_vm.proofs.SoundSteps.{step_is_sound, start_is_reached, runs_are_reached}
use Rattle.sieve_vm.proofs.Falls.{cap_there, potential-here, potential-start}

-- what holds of all elements holds of those that are left where each stays once
All-once : {A : Type 0} (same : A → A → Bool) (P : A → Type 0) (xs : List A) → All P xs → All P (each_once same xs)
All-once same P [] all = all
All-once same P (x ∷ xs) all =
    All-cons P x (filter (λ y. not (same x y)) (each_once same xs)) (all 0 x (omega arith)) (All-filter (λ y. not (same x y)) P (each_once same xs) (All-once same P xs (λ k d lt. all (suc k) d (omega (arith, lt)))))

-- a run with one more step
pub Run-push : (code : Code) (mail : Mail) (n : ℕ) (from to next : State) → Run code mail n from to → step code mail to ≡ goes next → Run code mail (suc n) from next
Run-push code mail zero from to next run one = (next, subst (λ s. step code mail s ≡ goes next) (sym run) one, refl)
Run-push code mail (suc n) from to next run one = (run.0, run.1, Run-push code mail n run.0 to next run.2 one)

module _ (code : Code) (mail : Mail) (is : IsAccepted code) (known : IsMail mail) where
  pub reached : (n : ℕ) (s : State) → Run code mail n (start code) s → IsReached code mail s
  reached n s run = runs_are_reached code mail is known n (start code) s (start_is_reached code mail is known) run

  sound : (s : State) (turn : Turn) → IsReached code mail s → step code mail s ≡ turn → IsSound code mail s turn
  sound s turn there e = subst (IsSound code mail s) e (step_is_sound code mail is known s there)

  pub never_traps : (n : ℕ) (s : State) → Run code mail n (start code) s → step code mail s ≢ traps
  never_traps n s run e = sound s traps (reached n s run) e

  falls : (s after : State) → IsReached code mail s → step code mail s ≡ goes after → potential code mail after + after.charge ≤ potential code mail s + s.charge
  falls s after there e =
      let turn = sound s (goes after) there e in
      omega (arith, turn.2 (cap_there code mail), turn.1.within)

  pub falls_along : (n : ℕ) (s after : State) → Run code mail n (start code) s → step code mail s ≡ goes after → potential code mail after + after.charge ≤ potential code mail s + s.charge
  falls_along n s after run e = falls s after (reached n s run) e

  last_falls : (s end : State) → IsReached code mail s → step code mail s ≡ ends end → end.charge ≤ potential code mail s + s.charge
  last_falls s end there e =
      let turn = sound s (ends end) there e in
      let depth = open-length mail s.frames _ there.opened in
      omega (arith, potential-here code mail (cap_there code mail) s.frames s.place depth (inside code mail s.frames s.place (nesting code is) there.opened there.within), turn.0.within)

  pub falls_at_end : (n : ℕ) (s end : State) → Run code mail n (start code) s → step code mail s ≡ ends end → end.charge ≤ potential code mail s + s.charge
  falls_at_end n s end run e = last_falls s end (reached n s run) e

  -- along a run the potential and the charge together never rise, and each step costs one at least
  record Spends (n : ℕ) (from to : State) : Type 0 where
    pub kept : potential code mail to + to.charge ≤ potential code mail from + from.charge
    pub cost : from.charge + n ≤ to.charge

  spends : (n : ℕ) (from to : State) → IsReached code mail from → Run code mail n from to → Spends n from to
  spends zero from to there run = subst (Spends zero from) run (record { kept = omega arith; cost = omega arith })
  spends (suc n) from to there run =
      let turn = sound from (goes run.0) there run.1 in
      let rest = spends n run.0 to turn.0 run.2 in
      record { kept = omega (arith, falls from run.0 there run.1, rest.kept); cost = omega (arith, turn.1.dearer, rest.cost) }

  pub spent : (n : ℕ) (s : State) → Run code mail n (start code) s → (potential code mail s + s.charge ≤ limit_of code mail) × (n ≤ s.charge)
  spent n s run =
      let all = spends n (start code) s (start_is_reached code mail is known) run in
      let free : (start code).charge ≡ 0 = refl in
      (omega (arith, all.kept, potential-start code mail (nesting code is), free), omega (arith, all.cost, free))

  -- the step to the end counts as well
  pub last_step : (n : ℕ) (s end : State) → Run code mail n (start code) s → step code mail s ≡ ends end → suc n ≤ limit_of code mail
  last_step n s end run e =
      let all = spent n s run in
      let turn = sound s (ends end) (reached n s run) e in
      omega (arith, all.0, all.1, falls_at_end n s end run e, turn.0.dearer)

  abbrev Finishes : Type 0
  Finishes = (end : State) × RunEnds code mail end × (end.charge ≤ limit_of code mail)

  -- with so many charges left at most, of which each step takes one
  finish : (fuel n : ℕ) (s : State) → limit_of code mail < s.charge + fuel → Run code mail n (start code) s → Finishes
  finish zero n s short run = absurd (omega (arith, short, (spent n s run).0))
  finish (suc fuel) n s short run =
      by_turn (step code mail s) refl (sound s (step code mail s) (reached n s run) refl) (λ next dearer one. finish fuel (suc n) next (omega (arith, short, dearer)) (Run-push code mail n (start code) s next run one))
    where
      by_turn : (turn : Turn) → step code mail s ≡ turn → IsSound code mail s turn → ((next : State) → s.charge < next.charge → step code mail s ≡ goes next → Finishes) → Finishes
      by_turn (goes next) e turn on = on next turn.1.dearer e
      by_turn (ends end) e turn on = (end, record { steps = n; last = s; run = run; halts = e }, omega (arith, (spent n s run).0, falls_at_end n s end run e))
      by_turn traps e turn on = absurd turn

  pub reaches_its_end : Finishes
  reaches_its_end = finish (suc (limit_of code mail)) 0 (start code) (omega arith) refl

  -- a run that has ended has charged within the budget
  pub ends_within : (end : State) → RunEnds code mail end → end.charge ≤ limit_of code mail
  ends_within end over = omega (arith, (spent over.steps over.last over.run).0, falls_at_end over.steps over.last end over.run over.halts)

  -- its actions store parts of the message
  pub stored : (n : ℕ) (s : State) → Run code mail n (start code) s → All (NamesPart mail) s.actions
  stored n s run = (reached n s run).stores

  stored_at_end : (end : State) → RunEnds code mail end → All (NamesPart mail) end.actions
  stored_at_end end over = (sound over.last (ends end) (reached over.steps over.last over.run) over.halts).1

  -- and so do its final actions
  pub outcome_stores : (actions : List Action) (charged : ℕ) → IsOutcome code mail actions charged → All (NamesPart mail) actions
  outcome_stores actions charged outcome =
      let end = outcome.end in
      let first : All (NamesPart mail) (first_occurrences end.actions) = All-once is_same (NamesPart mail) end.actions (stored_at_end end outcome.over) in
      subst (All (NamesPart mail)) (sym outcome.actions_are) (kept (end.implicit_keep && not (is_listed Keep (first_occurrences end.actions))) first)
    where
      kept : (b : Bool) → All (NamesPart mail) (first_occurrences outcome.end.actions) → All (NamesPart mail) (cond b (first_occurrences outcome.end.actions ++ Keep ∷ []) (first_occurrences outcome.end.actions))
      kept true all = All-push (NamesPart mail) (first_occurrences outcome.end.actions) Keep all tt
      kept false all = all

-- a state has one step, so a run has one end
pub one_end_from : (code : Code) (mail : Mail) (n m : ℕ) (from s t e f : State) → Run code mail n from s → step code mail s ≡ ends e → Run code mail m from t → step code mail t ≡ ends f → e ≡ f
one_end_from code mail zero zero from s t e f p a q b =
    let first : step code mail from ≡ ends e = subst (λ x. step code mail x ≡ ends e) (sym p) a in
    let second : step code mail from ≡ ends f = subst (λ x. step code mail x ≡ ends f) (sym q) b in
    cc
one_end_from code mail zero (suc m) from s t e f p a q b =
    let first : step code mail from ≡ ends e = subst (λ x. step code mail x ≡ ends e) (sym p) a in
    let second = q.1 in
    absurd (let both : ends e ≡ goes q.0 = sym first ∙ second in cc)
one_end_from code mail (suc n) zero from s t e f p a q b =
    let first = p.1 in
    let second : step code mail from ≡ ends f = subst (λ x. step code mail x ≡ ends f) (sym q) b in
    absurd (let both : goes p.0 ≡ ends f = sym first ∙ second in cc)
one_end_from code mail (suc n) (suc m) from s t e f p a q b =
    let both : goes p.0 ≡ goes q.0 = sym p.1 ∙ q.1 in
    let same : p.0 ≡ q.0 = cc in
    one_end_from code mail n m p.0 s t e f p.2 a (subst (λ x. Run code mail m x t) (sym same) q.2) b
