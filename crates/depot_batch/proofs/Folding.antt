-- The turns of a batch as steps of what its depot holds.
use Rattle.std.proofs.Common.{◌≡◌, ◌⊎◌, ◌++◌, ap, arith, inl, inr, refl, subst, sym, ℕ, IsTrue, List, [], ◌∷◌, Some, length, map}
use Rattle.sqlite_trees.specs.declared.store.Store.{Ghosts}
use Rattle.sqlite_trees.specs.Tree.{Trees}
use Rattle.sqlite.specs.Held.{Held, state}
use Rattle.sqlite.specs.State.{HasCleanDisk, State, Survives}
use Rattle.devices.specs.Supply.{Supply}
use Rattle.part_store.specs.Entries.{Entries}
use Rattle.part_store.specs.Standing.{LeavesUnchanged, Stands}
use Rattle.depot_actions.specs.Deliveries.{calls_of}
use Rattle.depot_actions.specs.DepotState.{Command, Does, Export as Exports, Listed, Reply as DepotReply, Text as Written}
use Rattle.depot_actions.specs.History.{AreSteps, Call}
use Rattle.depot_jobs.specs.Host.{HostState}
use Rattle.depot_cli.specs.Requests.{on_depot, request_command}
use Rattle.depot_batch.specs.Asked.{Text}
use Rattle.depot_jobs.specs.declared.request.Deposit.TheVariants.{Message}
use Rattle.depot_cli.specs.declared.task.WithReply.TheVariants.{FromFile}
use Rattle.refusals.specs.declared.refusal.Refusal.{Refusal}
use Rattle.depot_batch.specs.Batch.{AreCallsIn, AreCallsOf, AreTaken, Did, IsCallFor, IsMadeAtOne}
use Rattle.depot_batch.specs.Effects.{AreDeliveries, DepotAndOutput, HasCome, HasHappened, IsAsked, IsDone, IsRefused}
use Rattle.depot_batch.specs.Said.{Said}
use Rattle.depot_batch.specs.Turns.{Alone, Together, Turn, Whole, Withdrawn, done_in}
use Rattle.depot_batch.specs.declared.asked.Asked.{Asked}
use Rattle.depot_batch.specs.declared.asked.Asked.TheVariants.{Reply, Export as IntoFile}
use Rattle.depot_batch.specs.declared.format.Format.{Format}
use Rattle.depot_batch.specs.declared.outcome.Outcome.{Outcome}
use Rattle.depot_batch.specs.declared.outcome.Outcome.TheVariants.{Done, Refused, Wrong}

-- a disk that is clean was clean before
clean_before : {P : Trees → Type 0} (old new : State) → Survives old new P → HasCleanDisk new → HasCleanDisk old
clean_before old new survives clean = omega (arith, survives.clean, clean)

-- ---- steps

-- steps, and then others
steps_both : (first later : List Call) (before mid after : Entries) → AreSteps first before mid → AreSteps later mid after → AreSteps (first ++ later) before after
steps_both [] later before mid after are more = subst (λ (e : Entries). AreSteps later e after) are more
steps_both (call ∷ calls) later before mid after are more = (are.0, are.1, steps_both calls later are.0 mid after are.2 more)

-- deliveries that were read are calls of their lines
delivered : (name : Text) (lines : List (List ℕ)) (commands : List Command) (replies : List DepotReply) (host host2 : HostState) → AreDeliveries lines commands host host2
    → length replies ≡ length commands → AreCallsOf name lines (calls_of commands replies) host
delivered name [] [] replies host host2 are each = tt
delivered name [] (command ∷ commands) replies host host2 are each = absurd are
delivered name (line ∷ lines) [] replies host host2 are each = absurd are
delivered name (line ∷ lines) (command ∷ commands) [] host host2 are each = absurd (omega (arith, each))
delivered name (line ∷ lines) (command ∷ commands) (reply ∷ replies) host host2 are each =
    let one = are.1 in (
      Reply (FromFile Message one.0 one.1),
      one.2,
      are.0,
      (one.3, one.4, reply, ap (λ (c : Command). record { command = c; reply = Some reply }) one.5),
      delivered name lines commands replies are.0 host2 are.2 (omega (arith, each)),
    )

-- what lines made of what was held, as the host was
record Went (name : Text) (lines : List (List ℕ)) (host : HostState) (before : Entries) (new : State) : Type 0 where
  calls : List Call
  after : Entries
  are : AreCallsOf name lines calls host
  steps : AreSteps calls before after
  stands : IsTrue new.is_open → Stands new.now after

unchanged : (name : Text) (host : HostState) (old new : State) (before : Entries) → LeavesUnchanged old new → (IsTrue old.is_open → Stands old.now before) → Went name [] host before new
unchanged name host old new before spares given = record {
  calls = [];
  after = before;
  are = tt;
  steps = refl;
  stands = λ is_open.
      let stood = given (spares.stays_closed is_open) in
      subst (λ d. Stands d before) (sym (spares.same stood.schema is_open).0) stood;
}

did : (name line : Text) (asked : Asked) (command : Command) (reply : DepotReply) (host host2 : HostState) (old new : State) (before : Entries) → IsAsked line asked
    → IsCallFor name asked (record { command = command; reply = Some reply }) host host2 → Does command reply old new → (IsTrue old.is_open → Stands old.now before)
    → Went name (line ∷ []) host before new
did name line asked command reply host host2 old new before is call does given =
    let done = does.1 before (given does.0) in
    record {
      calls = record { command = command; reply = Some reply } ∷ [];
      after = done.0;
      are = (asked, is, host2, call, tt);
      steps = (done.0, done.1, refl);
      stands = λ is_open. (done.2.stands is_open).0;
    }

module _ {S : Type 0} (g : Ghosts S) where
  same : (name : Text) (host : HostState) (old new : Held S) (before : Entries) → new ≡ old → (IsTrue (state g old).is_open → Stands (state g old).now before)
      → Went name [] host before (state g new)
  same name host old new before is given = record {
    calls = [];
    after = before;
    are = tt;
    steps = refl;
    stands = subst (λ (h : Held S). IsTrue (state g h).is_open → Stands (state g h).now before) (sym is) given;
  }

  module _ (name line : List ℕ) (old new : Held S) (host host2 : HostState) (before : Entries) (clean : HasCleanDisk (state g new))
      (given : IsTrue (state g old).is_open → Stands (state g old).now before) where
    done_went : (asked : Asked) (said : Said) → IsAsked line asked → IsDone (Did g old new) name asked said host host2 → Went name (line ∷ []) host before (state g new)
    done_went (Reply command) said is done =
        let answered = done.2 in
        did name line (Reply command) (request_command (on_depot command) done.0) answered.0 host host2 (state g old) (state g new) before is (done.0, done.1, answered.0, refl) (answered.1 clean) given
    done_went (IntoFile export) said is done =
        let made = done.1 in
        did name line (IntoFile export) (Exports export.user.now export.number export.encoding) (Written made.0) host host2 (state g old) (state g new) before is (made.0, made.1, refl) (made.2 clean) given

    refused_went : (asked : Asked) (refusal : Refusal) → IsRefused (Did g old new) name asked refusal host host2 → Went name [] host before (state g new)
    refused_went (Reply command) refusal refused = elim refused [
      | inl unread ↦ same name host old new before unread.1 given
      | inr asked ↦ unchanged name host (state g old) (state g new) before (asked.2.1 clean).2 given
    ]
    refused_went (IntoFile export) refusal refused = elim refused [
      | inl unmade ↦ unchanged name host (state g old) (state g new) before (unmade.1 clean) given
      | inr asked ↦ unchanged name host (state g old) (state g new) before (asked.2.1 clean).2 given
    ]

  module _ (name : List ℕ) (old new : DepotAndOutput (Held S)) (before : Entries) (clean : HasCleanDisk (state g new.depot))
      (given : IsTrue (state g old.depot).is_open → Stands (state g old.depot).now before) where
    come_went : (line : List ℕ) (outcome : Outcome) (said : Said) → HasCome (Did g old.depot new.depot) name line outcome said old.host new.host → Went name (done_in (Alone line outcome)) old.host before (state g new.depot)
    come_went line Done said come = done_went name line old.depot new.depot old.host new.host before clean given come.0 said come.1 come.2
    come_went line (Refused refusal) said come = elim come.1 [
      | inl idle ↦ let still = idle.1 in same name old.host old.depot new.depot before still.0 given
      | inr asked ↦ refused_went name line old.depot new.depot old.host new.host before clean given asked.0 refusal asked.2
    ]
    come_went line Wrong said come = let still = come.3 in same name old.host old.depot new.depot before still.0 given

    turn_went : (format : Format) (turn : Turn) → HasHappened (Did g) name format turn Whole old new → Went name (done_in turn) old.host before (state g new.depot)
    turn_went format (Alone line outcome) happens = come_went line outcome happens.said happens.come
    turn_went format (Together lines) happens =
        let does = happens.done clean in
        let done = does.1 before (given does.0) in
        record {
          calls = calls_of happens.commands (map Listed happens.filed);
          after = done.0;
          are = delivered name lines happens.commands (map Listed happens.filed) old.host new.host happens.files done.1.each;
          steps = done.1.steps;
          stands = λ is_open. (done.2.stands is_open).0;
        }
    turn_went format (Withdrawn lines) happens = unchanged name old.host (state g old.depot) (state g new.depot) before (happens.unchanged clean) given

  -- a disk that is clean after turns was clean before them
  clean_all : (name : List ℕ) (format : Format) (turns : List Turn) (input rest : Supply) (old new : DepotAndOutput (Held S)) → AreTaken g name format turns input rest old new → HasCleanDisk (state g new.depot)
      → HasCleanDisk (state g old.depot)
  clean_all name format [] input rest old new are clean = subst (λ (o : DepotAndOutput (Held S)). HasCleanDisk (state g o.depot)) are.1 clean
  clean_all name format (turn ∷ turns) input rest old new are clean =
      clean_before (state g old.depot) (state g are.1.depot) are.3.outlasts (clean_all name format turns are.0 rest are.1 new are.5 clean)

  pub turns_went : (name : List ℕ) (format : Format) (turns : List Turn) (input rest : Supply) (old new : DepotAndOutput (Held S)) (before : Entries) (taken : AreTaken g name format turns input rest old new)
      → HasCleanDisk (state g new.depot) → (IsTrue (state g old.depot).is_open → Stands (state g old.depot).now before)
      → (calls : List Call) × (after : Entries) × AreCallsIn g name format turns input rest old new taken calls × AreSteps calls before after
      × (IsTrue (state g new.depot).is_open → Stands (state g new.depot).now after)
  turns_went name format [] input rest old new before are clean given =
      ([], before, refl, refl, subst (λ (o : DepotAndOutput (Held S)). IsTrue (state g o.depot).is_open → Stands (state g o.depot).now before) (sym are.1) given)
  turns_went name format (turn ∷ turns) input rest old new before are clean given =
      let one = turn_went name old are.1 before (clean_all name format turns are.0 rest are.1 new are.5 clean) given format turn are.3.come in
      let more = turns_went name format turns are.0 rest are.1 new one.after are.5 clean one.stands in (
        one.calls ++ more.0,
        more.1,
        (one.calls, more.0, refl, one.are, more.2),
        steps_both one.calls more.0 before one.after more.1 one.steps more.3,
        more.4,
      )

  -- what a crash leaves after turns
  pub left_by_turns : (name : List ℕ) (format : Format) (turns : List Turn) (input rest : Supply) (old new : DepotAndOutput (Held S)) → AreTaken g name format turns input rest old new → HasCleanDisk (state g new.depot)
      → (trees : Trees) → (state g new.depot).may_leave trees → (state g old.depot).may_leave trees ⊎ IsMadeAtOne g name format turns input old trees
  left_by_turns name format [] input rest old new are clean trees left = inl (subst (λ (o : DepotAndOutput (Held S)). (state g o.depot).may_leave trees) are.1 left)
  left_by_turns name format (turn ∷ turns) input rest old new are clean trees left =
      let mid = are.1 in
      elim (left_by_turns name format turns are.0 rest mid new are.5 clean trees left) [
        | inl before ↦ elim (are.3.outlasts.crash (clean_all name format turns are.0 rest mid new are.5 clean) trees before) [
          | inl was ↦ inl was
          | inr made ↦ inr (record {
            before = [];
            turn = turn;
            later = turns;
            are = refl;
            here = input;
            mid = old;
            taken = (refl, refl);
            host = mid.host;
            made = made;
          })
        ]
        | inr one ↦ inr (record {
          before = turn ∷ one.before;
          turn = one.turn;
          later = one.later;
          are = ap (λ others. turn ∷ others) one.are;
          here = one.here;
          mid = one.mid;
          taken = (are.0, mid, are.2, are.3, are.4, one.taken);
          host = one.host;
          made = one.made;
        })
      ]
