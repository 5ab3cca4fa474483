-- What a turn of a batch does to a depot, by the state that the depot stands for.
use Rattle.std.proofs.Common.{◌≡◌, ◌⊎◌, ◌<◌, ◌≤◌, inl, inr, IsTrue, List, ℕ, map, None, Result, refl, sym, subst, ◌∙◌, arith}
use Rattle.sqlite_disk.specs.declared.Disk.{Ghosts}
use Rattle.sqlite_disk.specs.declared.Files.{Files}
use Rattle.sqlite_trees.specs.Tree.{Trees}
use Rattle.sqlite.specs.declared.FileStore.{FileStore}
use Rattle.sqlite.specs.Files.{file_state, over_files}
use Rattle.sqlite.specs.Held.{Held}
use Rattle.sqlite.specs.State.{HasCleanDisk, Survives}
use Rattle.part_store.specs.Entries.{Entries}
use Rattle.part_store.specs.Opening.{IsAt}
use Rattle.part_store.specs.Standing.{Stands}
use Rattle.refusals.specs.declared.refusal.Refusal.{Refusal}
use Rattle.depot_actions.specs.Deliveries.{AcceptsAll}
use Rattle.depot_actions.specs.DepotState.{Accepts, Export as Exports, Leaves, Listed, Text as Written}
use Rattle.depot_jobs.specs.Host.{HostState}
use Rattle.depot_cli.specs.Requests.{on_depot, request_command}
use Rattle.depot_batch.specs.Asked.{Text}
use Rattle.depot_batch.specs.Batch as batch
use Rattle.depot_batch.specs.Effects.{Accepted, AcceptedAll, Declined, DepotAndOutput, Effect, HasCome, HasHappened, IsDone, IsRefused, NotAsked, Unchanged, depot_and_output}
use Rattle.depot_batch.specs.Said.{Said}
use Rattle.depot_batch.specs.Turns.{Alone, Broken, Together, Turn, Whole, Withdrawn, Writing}
use Rattle.depot_batch.specs.declared.asked.Asked.{Asked}
use Rattle.depot_batch.specs.declared.asked.Asked.TheVariants.{Reply as ToReply, Export as IntoFile}
use Rattle.depot_batch.specs.declared.format.Format.{Format}
use Rattle.depot_batch.specs.declared.outcome.Outcome.{Outcome}
use Rattle.depot_batch.specs.declared.outcome.Outcome.TheVariants.{Done, Refused, Wrong}
use Rattle.depot.specs.Batches.{Did}
use Rattle.depot.specs.Ending.{HasCounted}
use Rattle.depot.proofs.Ended.{still_at}

-- ---- from one kind of effects to another

-- there is one of these that fits
pub record Fitting {A : Type 0} (Fits Is : A → Type 0) : Type 0 where
  pub after : A
  pub is : Is after
  pub fits : Fits after

so : {A : Type 0} {Fits Is More : A → Type 0} → Fitting Fits Is → ((after : A) → Is after → More after) → Fitting Fits More
so one more = record { after = one.after; is = more one.after one.is; fits = one.fits }

-- If each effect leads to another, so does what comes of a line.
module _ {A : Type 0} {One : Effect → Type 0} {Other : A → Effect → Type 0} {Fits : A → Type 0}
    (leads : (effect : Effect) → One effect → Fitting Fits (λ after. Other after effect)) (name : Text) (host host2 : HostState) where
  done_leads : (asked : Asked) (said : Said) → IsDone One name asked said host host2 → Fitting Fits (λ after. IsDone (Other after) name asked said host host2)
  done_leads (ToReply command) said done =
      let answered = done.2 in
      so (leads (Accepted (request_command (on_depot command) done.0) answered.0) answered.1) (λ after is. (done.0, done.1, (answered.0, is, answered.2)))
  done_leads (IntoFile export) said done =
      let made = done.1 in
      so (leads (Accepted (Exports export.user.now export.number export.encoding) (Written made.0)) made.2) (λ after is. (done.0, (made.0, made.1, is)))

  refused_leads : (asked : Asked) (refusal : Refusal) → IsRefused One name asked refusal host host2 → Fitting Fits (λ after. IsRefused (Other after) name asked refusal host host2)
  refused_leads (ToReply command) refusal refused = elim refused [
    | inl unread ↦ so (leads NotAsked unread.1) (λ after is. inl (unread.0, is))
    | inr asked ↦ so (leads (Declined (request_command (on_depot command) asked.0) refusal) asked.2) (λ after is. inr (asked.0, asked.1, is))
  ]
  refused_leads (IntoFile export) refusal refused = elim refused [
    | inl unmade ↦ so (leads Unchanged unmade.1) (λ after is. inl (unmade.0, is))
    | inr asked ↦ so (leads (Declined (Exports export.user.now export.number export.encoding) refusal) asked.2) (λ after is. inr (asked.0, asked.1, is))
  ]

  come_leads : (line : Text) (outcome : Outcome) (said : Said) → HasCome One name line outcome said host host2 → Fitting Fits (λ after. HasCome (Other after) name line outcome said host host2)
  come_leads line Done said come = so (done_leads come.0 said come.2) (λ after is. (come.0, come.1, is))
  come_leads line (Refused refusal) said come = elim come.1 [
    | inl idle ↦ let still = idle.1 in so (leads NotAsked still.0) (λ after is. (come.0, inl (idle.0, (is, still.1))))
    | inr asked ↦ so (refused_leads asked.0 refusal asked.2) (λ after is. (come.0, inr (asked.0, asked.1, is)))
  ]
  come_leads line Wrong said come = let still = come.3 in so (leads NotAsked still.0) (λ after is. (come.0, come.1, come.2, (is, still.1)))

-- so does what happens in a turn
pub turn_leads : {A B : Type 0} (One : B → B → Effect → Type 0) (Other : A → A → Effect → Type 0) {Fits : A → Type 0} (old new : DepotAndOutput B) (before : A)
    → ((effect : Effect) → One old.depot new.depot effect → Fitting Fits (λ after. Other before after effect)) → (name : Text) (format : Format) (turn : Turn) (writing : Writing)
    → HasHappened One name format turn writing old new
    → Fitting Fits (λ after. HasHappened Other name format turn writing (depot_and_output before old.host old.out) (depot_and_output after new.host new.out))
turn_leads One Other old new before leads name format (Alone line outcome) writing it =
    so (come_leads leads name old.host new.host line outcome it.said it.come) (λ after is. record { said = it.said; come = is; wording = it.wording; suits = it.suits; written = it.written })
turn_leads One Other old new before leads name format (Together lines) writing it =
    so (leads (AcceptedAll it.commands (map Listed it.filed)) it.done)
    (λ after is.
    record { few = it.few; commands = it.commands; files = it.files; filed = it.filed; done = is; wording = it.wording; suits = it.suits; written = it.written })
turn_leads One Other old new before leads name format (Withdrawn lines) Whole it =
    so (leads Unchanged it.unchanged) (λ after is. record { some = it.some; few = it.few; files = it.files; unchanged = is; out = it.out })
turn_leads One Other old new before leads name format (Withdrawn lines) Broken it = absurd it

-- ---- from the store to the state

module _ {D : Type 0} (g : Ghosts D) where
  -- a depot shows this state, as long as it is open
  abbrev pub Shows : Entries → Held (FileStore D g) → Type 0
  Shows state depot = IsTrue (file_state depot).is_open → IsAt state (file_state depot)

  -- Where a depot stands between turns: it shows the state as long as it is open, only a fault that it
  -- counts has shut it, and it has no limit of steps.
  pub record Works (state : Entries) (depot : Held (FileStore D g)) : Type 0 where
    pub shows : Shows state depot
    pub closed_by_failure : IsTrue (file_state depot).is_open ⊎ (0 < (file_state depot).faults)
    pub unlimited : (file_state depot).step_limit ≡ None

  -- so it stands after a call, too
  pub still_works : {P : Trees → Type 0} (old new : Held (FileStore D g)) (before after : Entries) → Works before old → Shows after new → HasCleanDisk (file_state new)
      → Survives (file_state old) (file_state new) P → Works after new
  still_works old new before after works shows clean survives = record {
    shows = shows;
    closed_by_failure = elim works.closed_by_failure [
      | inl is_open ↦ elim (survives.closes clean is_open) [ inl still ↦ inl still | inr more ↦ let one : 0 < (file_state new).faults = omega (arith, more) in inr one ]
      | inr some ↦ inr (omega (arith, some, survives.counts))
    ];
    unlimited = survives.limit ∙ works.unlimited;
  }

  -- the state that a depot shows after one was shown, which a depot that isn't open still has
  pub record Shown (before : Entries) (new : Held (FileStore D g)) (after : Entries) : Type 0 where
    pub shows : Shows after new
    pub closes : IsTrue (file_state new).is_open ⊎ (after ≡ before)

  module _ (left : Result (Files D) (FileStore D g)) (old new : Held (FileStore D g)) (before : Entries) (works : Works before old) (clean : HasCleanDisk (file_state new))
      (counts : (file_state old).faults ≤ (file_state new).faults) (counted : HasCounted (file_state new).faults left) where
    stays : {Is : Entries → Type 0} → Is before → Shows before new → Fitting (Shown before new) Is
    stays is shows = record { after = before; is = is; fits = record { shows = shows; closes = inr refl } }

    accepts : (Is : Entries → Entries → Type 0)
        → IsTrue (file_state old).is_open × ((state : Entries) → Stands (file_state old).now state → (after : Entries) × Is state after × Leaves state after (file_state old) (file_state new))
        → Fitting (Shown before new) (Is before)
    accepts Is does =
        let one = does.1 before (works.shows does.0).0 in
        record {
          after = one.0;
          is = one.1;
          fits = record {
            shows = λ is_open. let both = one.2.stands is_open in (both.0, both.1, is_open);
            closes = elim one.2.closes [ inl is_open ↦ inl is_open | inr same ↦ inr same.0 ];
          };
        }

    pub effect_leads : (effect : Effect) → batch.Did over_files old new effect → Fitting (Shown before new) (λ after. Did left before after effect)
    effect_leads NotAsked same = stays refl (subst (λ (d : Held (FileStore D g)). Shows before d) (sym same) works.shows)
    effect_leads Unchanged spares = stays refl (still_at g old new before works.shows (spares clean))
    effect_leads (Accepted command reply) done = accepts (λ state after. Accepts state command reply after) (done clean)
    effect_leads (AcceptedAll commands replies) done = accepts (λ state after. AcceptsAll state commands replies after) (done clean)
    effect_leads (Declined command refusal) refused =
        let all = refused.1 clean in
        record {
          after = before;
          is = (
            record {
              may = refused.0;
              depot = old;
              shows = works.shows;
              closed_by_failure = works.closed_by_failure;
              unlimited = works.unlimited;
              cause = all.0;
              after = new;
              fault = all.1;
              counts = counts;
              counted = counted;
            },
            refl,
          );
          fits = record { shows = still_at g old new before works.shows all.2; closes = inr refl };
        }
