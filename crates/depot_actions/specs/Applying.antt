-- What a call of a depot promises of its command: once for all commands.
use Rattle.std.specs.Prelude.{Bool, true, false, IfErr, List, Result}
use Rattle.sqlite_trees.specs.declared.store.Store.{Ghosts}
use Rattle.sqlite_trees.specs.Tree.{Trees}
use Rattle.sqlite.specs.Held.{Held}
use Rattle.sqlite.specs.State.{State}
use Rattle.part_store.specs.Calls.{Always, IfDone, IfRefused, MayCommit, OnRefused}
use Rattle.part_store.specs.Refusals.{AreNamed}
use Rattle.part_store.specs.Standing.{LeavesUnchanged}
use Rattle.refusals.specs.declared.refusal.Refusal.{Refusal}
use Rattle.depot_actions.specs.Causes.{IsCause, IsFault, MayRefuse}
use Rattle.depot_actions.specs.Deliveries.{AreRefused, DoesAll, MayLeaveAll, MayRefuseAll}
use Rattle.depot_actions.specs.DepotState.{Catalog, Command, Deliver, Does, Export, ListAll, ListSince, MayLeave, Migrate, ProgramOf, Remove, Reply, SetCode, SetScript}
use Rattle.depot_actions.specs.declared.deliveries.RefusedDelivery.{RefusedDelivery}

-- the command changes nothing, whatever comes of it
abbrev pub only_looks : Command → Bool
only_looks (SetScript user script) = false
only_looks (SetCode user program) = false
only_looks (Deliver user message) = false
only_looks (ListAll user) = true
only_looks (ListSince user number) = true
only_looks (Catalog user number) = true
only_looks (ProgramOf user) = true
only_looks (Export user number encoding) = true
only_looks (Remove user number) = false
only_looks Migrate = false

-- the store is as it was: after a command that only looks always, after any other where it is refused
abbrev pub Spares : Bool → {S : Type 0} → Ghosts S → Held S → Held S → {A : Type 0} → Result A Refusal → Type 0
Spares true g old new result = Always g old new LeavesUnchanged
Spares false g old new result = OnRefused g old new result LeavesUnchanged

-- what is left, but of a command that only looks nothing
abbrev pub Unless : Bool → (State → Trees → Type 0) → State → Trees → Type 0
Unless true Leaves old trees = ⊥
Unless false Leaves old trees = Leaves old trees

-- what a crash may leave of a command that it couldn't leave before: what the command leaves
abbrev pub MayAdd : Command → State → Trees → Type 0
MayAdd command = Unless (only_looks command) (MayLeave command)

-- why the store refuses a command; of a migration that is known where the users of the tables are texts
abbrev pub HasFault : Command → State → State → Refusal → Type 0
HasFault Migrate old new refusal = AreNamed old.now.trees → IsFault Migrate old new refusal
HasFault command old new refusal = IsFault command old new refusal

-- A command of a depot is done, and what the call returns is its reply; or it is refused by a refusal that this command
-- may get, whatever the disk does, and the store is as it was. As long as the disk returns what was written, the
-- refusal has its cause. A crash leaves what it could leave before, or what the command leaves.
pub record Applies {S : Type 0} (g : Ghosts S) (old new : Held S) {A : Type 0} (result : Result A Refusal) (command : Command) (reply : A → Reply) : Type 0 where
  pub done : IfDone g old new result (λ x. Does command (reply x))
  pub unchanged : Spares (only_looks command) g old new result
  pub which : IfErr result (MayRefuse command)
  pub refused : IfRefused g old new result (IsCause command)
  pub cause : IfRefused g old new result (HasFault command)
  pub survives : MayCommit g old new (MayAdd command)

-- the same of commands that are done one after another, all or none
pub record AppliesAll {S : Type 0} (g : Ghosts S) (old new : Held S) {A : Type 0} (result : Result A RefusedDelivery) (commands : List Command) (replies : A → List Reply) : Type 0 where
  pub done : IfDone g old new result (λ x. DoesAll commands (replies x))
  pub unchanged : OnRefused g old new result LeavesUnchanged
  pub which : IfErr result (λ e. MayRefuseAll commands e.place e.refusal)
  pub refused : IfRefused g old new result (λ old new e. AreRefused commands e.place e.refusal old new)
  pub survives : MayCommit g old new (MayLeaveAll commands)
