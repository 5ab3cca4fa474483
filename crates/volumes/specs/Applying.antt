-- What a call on volumes promises of its command: once for all commands.
use Rattle.std.specs.Prelude.{◌≡◌, ◌⊎◌, ℕ, ◌+◌, ◌*◌, ◌^◌, ◌<◌, ◌≤◌, IfErr, IfOk, OnErr, List, Result, length}
use Rattle.part_store.specs.Entries.{Entries}
use Rattle.refusals.specs.declared.refusal.Refusal.{Refusal}
use Rattle.refusals.specs.declared.refusal.Refusal.TheVariants.{NoSuchEntry, NumberFull}
use Rattle.depot_actions.specs.Causes.{IsFull, MayRefuse, NamesNone}
use Rattle.depot_actions.specs.DepotState.{Accepts, Command, Reply}
use Rattle.volumes.specs.Holding.{Holding, IsFailure}
use Rattle.volumes.specs.Places.{IsPlaceAmong, lasts_of}
use Rattle.volumes.specs.Volumes.{AreVolumes, whole}

-- the cause that a refusal of a command has in what all volumes hold, where the command's own refusals need one there
abbrev pub HasCauseIn : Refusal → Command → Entries → Type 0
HasCauseIn NoSuchEntry command before = NamesNone before command
HasCauseIn NumberFull command before = IsFull before command
HasCauseIn refusal command before = Unit {0}

module _ {V : Type 0} (k : Holding V) where
  -- volumes are held that are together what the command, with its reply, makes of what these were
  abbrev pub HoldsStep : V → List Entries → Command → Reply → Type 0
  HoldsStep new before command reply =
      (after : List Entries) × Accepts (whole before) command reply (whole after) × AreVolumes after × k.holds new after

  -- volumes are held that are together what these were
  abbrev pub HoldsSame : V → List Entries → Type 0
  HoldsSame new before = (after : List Entries) × (whole after ≡ whole before) × AreVolumes after × k.holds new after

  -- whatever volumes were held, if no depot was shut by a failure
  abbrev pub FromAll : V → V → (List Entries → Type 0) → Type 0
  FromAll old new Is = k.is_sound new → (before : List Entries) → k.holds old before → AreVolumes before → Is before

  -- the command is done, with this reply
  abbrev pub StepsAs : V → V → Command → Reply → Type 0
  StepsAs old new command reply = FromAll old new (λ before. HoldsStep new before command reply)

  -- What all volumes hold together is as it was. They can be others: the next one may have begun.
  pub record KeepsWhole (old new : V) : Type 0 where
    pub same : FromAll old new (HoldsSame new)
    pub sound : k.is_sound new → k.is_sound old

  -- A command is done on all volumes as one depot, and what the call returns is its reply; or it is refused, by a refusal that the
  -- command may get or because the volumes can't be opened, and what they hold together is as it was. They stay volumes of one depot.
  pub record AppliesOnVolumes (old new : V) {A : Type 0} (result : Result A Refusal) (command : Command) (reply : A → Reply) : Type 0 where
    pub done : FromAll old new (λ before. IfOk result (λ x. HoldsStep new before command (reply x)))
    pub unchanged : FromAll old new (λ before. OnErr result (HoldsSame new before))
    pub sound : k.is_sound new → k.is_sound old
    pub which : IfErr result (λ e. MayRefuse command e ⊎ IsFailure e)
    pub cause : FromAll old new (λ before. IfErr result (λ e. HasCauseIn e command (whole before)))

  -- it is the place of the first of so many volumes in which the user's last number is at least this one: if none is, how many they are
  abbrev pub IsSoughtPlace : V → V → List ℕ → ℕ → ℕ → ℕ → Type 0
  IsSoughtPlace old new user number count place =
      FromAll old new (λ before. count ≤ length before → IsPlaceAmong count number (lasts_of user before) place)

  -- at most as many were opened as the logarithm of their number to base 2, rounded up, and 1
  abbrev pub OpensFew : V → V → Type 0
  OpensFew old new = (vs : List Entries) → k.holds old vs → 0 < length vs
      → (questions : ℕ) × (k.opened new ≤ k.opened old + questions + 1) × (2 ^ questions + 1 ≤ 2 * length vs)
