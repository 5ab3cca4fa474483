-- Runs one after another, also where a crash ends one.
use Rattle.std.proofs.Common.{◌≡◌, ◌⊎◌, inl, inr, false, List, [], ◌∷◌, Option, Some, None, IsTrue, refl, sym, ap, subst, ◌∙◌, arith}
use Rattle.std.proofs.Math.Logic.{∥∥₁_elim, ∥∥₁_map}
use Rattle.std.proofs.lemmas.Bool.{cases_Bool, true≢false}
use Rattle.sqlite_disk.specs.declared.Disk.{Ghosts}
use Rattle.sqlite_trees.specs.Tree.{Trees}
use Rattle.sqlite.specs.declared.FileStore.{FileStore}
use Rattle.sqlite.specs.Effect.{Database}
use Rattle.sqlite.specs.Files.{file_state}
use Rattle.sqlite.specs.Held.{Held}
use Rattle.sqlite.specs.Recovery.{Image}
use Rattle.sqlite.specs.State.{State, HasCleanDisk}
use Rattle.part_store.specs.Entries.{Entries}
use Rattle.part_store.specs.Opening.{HoldsState, IsAt}
use Rattle.part_store.specs.Standing.{IsStored, Stands}
use Rattle.part_store.proofs.Crashed.{files_leave_committed, left_holds_one}
use Rattle.part_store.proofs.Stored.{stored_as}
use Rattle.depot_actions.specs.DepotState.{Accepts, Command, Reply}
use Rattle.depot_actions.specs.History.{Answers, IsStep}
use Rattle.depot_actions.specs.Runs.{AreLed, HoldFold, HoldsAfter, IsRun, IsRunStep, Leads, NotOpened, Past, Run, session_of}

-- what a command with this reply, or none, left in a store that is open
record Left (command : Command) (reply : Option Reply) (before : Entries) (new : State) : Type 0 where
  after : Entries
  step : IsStep command reply before after
  stands : Stands new.now after
  committed : new.committed ≡ new.now

left_open : (command : Command) (reply : Option Reply) (old new : State) (before : Entries) → IsAt before old → Answers command reply old new → IsTrue new.is_open → Left command reply before new
left_open command None old new before at spares is_open =
    let same = spares.same at.0.schema is_open in
    record { after = before; step = refl; stands = subst (λ (d : Database). Stands d before) (sym same.0) at.0; committed = same.1 ∙ at.1 ∙ sym same.0 }
left_open command (Some reply) old new before at does is_open =
    let done = does.1 before at.0 in
    record { after = done.0; step = done.1; stands = (done.2.stands is_open).0; committed = (done.2.stands is_open).1 }

either_way : (command : Command) (reply : Option Reply) (before after : Entries) → IsStep command reply before after → (after ≡ before) ⊎ ((reply : Reply) × Accepts before command reply after)
either_way command None before after same = inl same
either_way command (Some reply) before after accepts = inr (reply, accepts)

-- a state that the command may come to, whose store these trees are
record Comes (command : Command) (before : Entries) (trees : Trees) : Type 0 where
  after : Entries
  either : (after ≡ before) ⊎ ((reply : Reply) × Accepts before command reply after)
  stored : IsStored trees after

module _ {D : Type 0} {g : Ghosts D} (stays : (file : D) → g.may_leave file (g.seen file)) where
  trees_of : (c : Held (FileStore D g)) (e : Entries) → IsTrue (file_state c).is_open → (file_state c).committed ≡ (file_state c).now → Stands (file_state c).now e
      → (trees : Trees) → (file_state c).may_leave trees → IsStored trees e
  trees_of c e is_open same stands trees may = stored_as trees (file_state c).now e (files_leave_committed c stays trees is_open may ∙ ap (λ (d : Database). d.trees) same) stands

  module _ (image : Image) (run : Run g) (it : IsRun image run) (before : Entries) (at : IsAt before (file_state run.opened)) where
    abbrev Step : Entries → Type 0
    Step = IsRunStep run.command run.reply (file_state run.ended).is_open before

    abbrev Made : Type 0
    Made = (after : Entries) × Step after × HoldsState run.left after

    ended_open : IsTrue (file_state run.ended).is_open → ∥ Made ∥₁
    ended_open is_open =
        let made = left_open run.command run.reply (file_state run.opened) (file_state run.ended) before at it.answers is_open in
        let step : Step made.after = record { either = either_way run.command run.reply before made.after made.step; told = λ _. made.step } in
        let stored = trees_of run.ended made.after is_open made.committed made.stands in
        elim it.left [
          | inl left ↦
              ∥∥₁_map (left_holds_one run.ended (λ trees may. (made.after, stored trees may)) run.left left)
              (λ one. let r : Made = (made.after, step, inl (one.holds made.after (stored one.trees one.may))) in r)
          | inr closed ↦ ∣ (made.after, step, inl (closed.1 made.after made.stands)) ∣₁
        ]

    comes : (trees : Trees) → (file_state run.ended).may_leave trees → Comes run.command before trees
    comes trees may = elim (it.survives.crash it.clean trees may) [
      | inl was ↦ record { after = before; either = inl refl; stored = trees_of run.opened before at.2 at.1 at.0 trees was }
      | inr is ↦ let made = is.1 before at.0 in record { after = made.1; either = inr (made.0, made.2); stored = made.3 }
    ]

    ended_shut : (file_state run.ended).is_open ≡ false → ∥ Made ∥₁
    ended_shut shut = elim it.left [
      | inl left ↦ ∥∥₁_map (left_holds_one run.ended (λ trees may. let c = comes trees may in (c.after, c.stored)) run.left left) (λ one.
          let c = comes one.trees one.may in
          let step : Step c.after = record { either = c.either; told = λ is_open. absurd (true≢false (sym is_open ∙ shut)) } in
          let r : Made = (c.after, step, inl (one.holds c.after c.stored)) in r)
      | inr closed ↦ absurd (true≢false (sym closed.0 ∙ shut))
    ]

    one_run : ∥ Made ∥₁
    one_run = elim (cases_Bool (file_state run.ended).is_open) [ inl is_open ↦ ended_open is_open | inr shut ↦ ended_shut shut ]

  opened_at : (image : Image) (run : Run g) → IsRun image run → (held : Entries) → HoldsState image held → IsAt held (file_state run.opened)
  opened_at image run it held holds =
      let early : HasCleanDisk (file_state run.opened) = omega (arith, it.clean, it.survives.clean) in
      elim holds [ inl store ↦ it.found early held store | inr (none, is) ↦ subst (λ (e : Entries). IsAt e (file_state run.opened)) (sym is) (it.empty early none) ]

  leads_by : (image : Image) (run : Run g) → IsRun image run → Leads (session_of run) image run.left
  leads_by image run it before holds = one_run image run it before (opened_at image run it before holds)

-- a run is a step
pub run_leads : {D : Type 0} {g : Ghosts D} (image : Image) (run : Run g) → IsRun image run → ((file : D) → g.may_leave file (g.seen file)) → Leads (session_of run) image run.left
run_leads {g = g} image run it stays = leads_by {g = g} stays image run it

-- a state that stays
pub nothing_leads : (image other : Image) → ((held : Entries) → HoldsState image held → ∥ HoldsState other held ∥₁) → Leads NotOpened image other
nothing_leads image other spares before holds =
    ∥∥₁_map (spares before holds) (λ still. let r : HoldsAfter NotOpened before other = (before, refl, still) in r)

pub sessions_fold : (past : List Past) (image : Image) (before : Entries) → HoldsState image before → AreLed image past → ∥ HoldFold image past before ∥₁
sessions_fold [] image before holds led = ∣ (before, refl, holds) ∣₁
sessions_fold (one ∷ others) image before holds (leads, more) = ∥∥₁_elim (leads before holds) squash₁ (λ made.
    ∥∥₁_map (sessions_fold others one.left made.0 made.2 more) (λ fold. let r : HoldFold image (one ∷ others) before = (fold.0, (made.0, made.1, fold.1), fold.2) in r))
