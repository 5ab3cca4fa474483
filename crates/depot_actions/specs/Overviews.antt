-- What a depot holds, user by user.
use Rattle.std.specs.Prelude.{◌≡◌, ◌≢◌, ◌⊎◌, ℕ, IfErr, IsTrue, List, Result, length, map, Option, None, Some, string_bytes}
use Rattle.std.specs.List.{AllZip, sum_by}
use Rattle.sqlite.specs.Held.{Held}
use Rattle.sqlite_trees.specs.Tree.{Trees}
use Rattle.sqlite_trees.specs.declared.store.Store.{Ghosts}
use Rattle.bytecode_format.specs.Code.{Code}
use Rattle.sieve_engine.specs.Execution.{IsChecked, IsProgramRefusal}
use Rattle.refusals.specs.declared.refusal.Refusal.{Refusal}
use Rattle.refusals.specs.declared.refusal.Refusal.TheVariants as refusals
use Rattle.part_store.specs.Calls.{Always, CommitsNothing, IfDone}
use Rattle.part_store.specs.Refusals.{AreNamed}
use Rattle.part_store.specs.Standing.{LeavesUnchanged, Stands}
use Rattle.part_store.specs.Tables.{contents_tree, users_tree}
use Rattle.part_store.specs.Entries.{Entries, Listing, entries_of, listing_of}
use Rattle.part_store.specs.Totals.{IsTotalOf}
use Rattle.part_store.specs.UserLines.{AreUsersOf, UserLine}
use Rattle.depot_actions.specs.Causes.{IsStoreFault, IsUncounted}
use Rattle.depot_actions.specs.declared.overview.Overview.{Overview}
use Rattle.depot_actions.specs.declared.overview.UserOverview.{UserOverview}
use Rattle.depot_actions.specs.declared.overview.ProgramState.{ProgramState}
use Rattle.depot_actions.specs.declared.overview.ProgramState.TheVariants.{Missing, Accepted, Refused}

-- octets that are stored as a program are accepted, and of this version, or refused
abbrev pub IsJudged : List ℕ → ProgramState → Type 0
IsJudged program Missing = ⊥
IsJudged program (Accepted version) = (code : Code) × IsChecked program code × (version ≡ code.version)
IsJudged program (Refused refusal) = (refusal ≢ refusals.Memory) × IsProgramRefusal program refusal

-- the state of a user's program, if he has one
abbrev pub IsStateOf : Option (List ℕ) → ProgramState → Type 0
IsStateOf None state = state ≡ Missing
IsStateOf (Some program) state = IsJudged program state

-- a user with the number of his entries and the sum of their octets
pub record Summarises (line : UserLine) (listed : List Listing) (x : UserOverview) : Type 0 where
  pub user : string_bytes x.user ≡ line.user
  pub last : x.last ≡ line.last
  pub entries : x.entries ≡ length listed
  pub octets : x.octets ≡ sum_by (λ (e : Listing). e.octets) listed
  pub program : IsStateOf line.program x.program

-- each user is summarised, with the entries that the state has of him
abbrev pub AreSummaries : Entries → List UserLine → List UserOverview → Type 0
AreSummaries e lines users = AllZip (λ line x. Summarises line (map listing_of (entries_of line.user e)) x) lines users

-- the users that have a row are summarised, in the order of their names, and the contents are counted
pub record IsOverview (db : Trees) (e : Entries) (x : Overview) : Type 0 where
  pub lines : List UserLine
  pub are : AreUsersOf (db users_tree) e lines
  pub users : AreSummaries e lines x.users.items
  pub contents : IsTotalOf (db contents_tree) x.contents

-- A depot is looked over: what it holds is told so, and nothing changes. `Database` is told only where the database can't work or
-- there is more than can be counted, if the users of the tables are texts.
pub record LooksOver {S : Type 0} (g : Ghosts S) (old new : Held S) {A : Type 0} (result : Result A Refusal) (Is : Trees → Entries → A → Type 0) : Type 0 where
  pub answer : IfDone g old new result (λ x old _. IsTrue old.is_open × ((before : Entries) → Stands old.now before → Is old.now.trees before x))
  pub unchanged : Always g old new LeavesUnchanged
  pub refused : IfErr result (λ e. (e ≡ refusals.Memory) ⊎ (e ≡ refusals.Database))
  pub cause : Always g old new (λ old new. AreNamed old.now.trees → IfErr result (IsStoreFault IsUncounted old new))
  pub survives : CommitsNothing g old new
