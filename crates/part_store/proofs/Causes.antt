-- A call that writes is refused for the cause of one of its statements.
use Rattle.std.proofs.Common.{◌≡◌, ℕ, List, IsTrue}
use Rattle.sqlite_trees.specs.Tree.{Trees}
use Rattle.sqlite.specs.State.{State, HasCleanDisk, Survives}
use Rattle.sqlite.specs.declared.error.Error.{Error}
use Rattle.sqlite.proofs.StateLemmas.{survives_then}
use Rattle.part_store.specs.Tables.{contents_tree, entries_tree, store_schema}
use Rattle.part_store.specs.Changes.{is_entry, IsTaken, Steps, IsTableIn}
use Rattle.part_store.specs.Entries.{Entries}
use Rattle.part_store.specs.Refusals.{refusal_of, OnlyWhenFailed}
use Rattle.part_store.specs.Causes.{IsWritable, WriteFaults}
use Rattle.part_store.specs.Standing.{IsContentRow, Stands}
use Rattle.part_store.specs.Inside.{Stays}
use Rattle.part_store.proofs.Failing.{later_failed}
use Rattle.part_store.proofs.Gaining.{keyed_all}
use Rattle.part_store.proofs.Stored.{still_listed}

pub stands_writable : (s : State) (before : Entries) → IsTrue s.in_transaction → Stands s.now before → IsWritable s
stands_writable s before inside stands = record { inside = inside; schema = stands.schema; listed = stands.listed }

-- a statement leaves the tables so that the next one may write
pub writable_then : (Change : Trees → Trees → Type 0) (old new : State) → Steps Change old new → IsWritable old → IsWritable new
writable_then Change old new step can =
    let done = step can.schema in
    record { inside = done.inside can.inside; schema = done.schema; listed = done.listed can.listed }

pub still_writable : (old new : State) (before : Entries) → Stays old new → (old.now.schema ≡ store_schema → IsTrue old.in_transaction → IsTrue new.in_transaction) → IsTrue old.in_transaction → Stands old.now before
    → IsWritable new
still_writable old new before stays inside begun stands =
    let same = stays stands.schema in
    record { inside = inside stands.schema begun; schema = same.0; listed = still_listed old.now new.now same.0 same.1 stands }

pub contents_table_in : (s : State) (before : Entries) → Stands s.now before → IsTableIn contents_tree s.now.trees
contents_table_in s before stands = (stands.tables.contents_rise, keyed_all IsContentRow (s.now.trees contents_tree) (λ r h. rw h.3) stands.tables.contents)

-- the removal of an entry's row
pub row_refused : (old mid new : State) (e : Error) → Stays old mid → (old.now.schema ≡ store_schema → IsTrue old.in_transaction → IsTrue mid.in_transaction) → Survives old mid (λ _. ⊥) → Survives mid new (λ _. ⊥)
    → HasCleanDisk new → WriteFaults mid new e → IsTrue old.in_transaction → OnlyWhenFailed old new (refusal_of e)
row_refused old mid new e stays inside one two clean removes begun is before stands =
    later_failed old mid new one two clean (removes is (still_writable old mid before stays inside begun stands))

-- and then that of its octets
pub octets_refused : (old one mid new : State) (user : List ℕ) (number : ℕ) (e : Error) → Stays old one → (old.now.schema ≡ store_schema → IsTrue old.in_transaction → IsTrue one.in_transaction)
    → Steps (IsTaken entries_tree (is_entry user number)) one mid → Survives old one (λ _. ⊥) → Survives one mid (λ _. ⊥) → Survives mid new (λ _. ⊥) → HasCleanDisk new
    → WriteFaults mid new e → IsTrue old.in_transaction → OnlyWhenFailed old new (refusal_of e)
octets_refused old one mid new user number e stays inside takes first second third clean faults begun is before stands =
    let can = still_writable old one before stays inside begun stands in
    let both = survives_then old one mid (λ _. ⊥) (λ _. ⊥) (λ _. ⊥) (λ _ _ h. h) (λ _ _ h. h) first second in
    later_failed old mid new both third clean (faults is (writable_then _ one mid takes can))
