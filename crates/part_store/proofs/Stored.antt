-- Trees that are the store of a state.
use Rattle.std.proofs.Common.{◌≡◌, IsTrue, sym, subst, subst₂, ◌∙◌, arith, true}
use Rattle.sqlite_schema.specs.declared.schema.Schema.{Schema}
use Rattle.sqlite_trees.specs.Tree.{Trees}
use Rattle.sqlite_trees.specs.declared.store.Store as store
use Rattle.sqlite.specs.Effect.{Database, IsDatabase}
use Rattle.sqlite.specs.Held.{Held, state}
use Rattle.sqlite.specs.State.{State, HasCleanDisk, Survives}
use Rattle.sqlite.proofs.Callers.{survives_begin}
use Rattle.sqlite.proofs.StateLemmas.{survives_then}
use Rattle.part_store.specs.Tables.{store_schema}
use Rattle.part_store.specs.Entries.{Entries}
use Rattle.part_store.specs.Inside.{Brings}
use Rattle.part_store.specs.Standing.{AddsVerified, IsStored, MayMake, Stands}

-- the same trees list the same tables
pub still_listed : {e : Entries} (old new : Database) → new.schema ≡ store_schema → new.trees ≡ old.trees → Stands old e → IsDatabase new
still_listed old new schema trees stands = subst₂ (λ (s : Schema) (t : Trees). IsDatabase (record { schema = s; trees = t })) (stands.schema ∙ sym schema) (sym trees) stands.listed

-- a database that stands for a state has the trees of its store
pub stored_as : (trees : Trees) (d : Database) (e : Entries) → trees ≡ d.trees → Stands d e → IsStored trees e
stored_as trees d e same stands = subst (λ (t : Trees). IsStored t e) (sym same)
    (record { listed = subst (λ (s : Schema). IsDatabase (record { schema = s; trees = d.trees })) stands.schema stands.listed; tables = stands.tables })

-- what a transaction of an open store brings is all that its commit may leave beside what was
pub committed_change : {S : Type 0} (g : store.Ghosts S) (old : Held S) (mid new : State) (change : Entries → Entries) → Survives (state g (record old { in_transaction = true })) mid (λ _. ⊥)
    → (HasCleanDisk mid → IsTrue (state g (record old { in_transaction = true })).is_open) → (HasCleanDisk mid → Brings change (state g (record old { in_transaction = true })) mid)
    → Survives mid new (λ trees. trees ≡ mid.now.trees) → Survives (state g old) new (λ trees. IsTrue (state g old).is_open × MayMake change (state g old) trees)
committed_change g old mid new change first is_open brings commits =
    survives_begin g old new _ (survives_then (state g (record old { in_transaction = true })) mid new (λ _. ⊥) (λ trees. trees ≡ mid.now.trees)
    (λ trees. IsTrue (state g old).is_open × MayMake change (state g old) trees) (λ clean trees none. absurd none)
    (λ clean trees is.
    let early : HasCleanDisk mid = omega (arith, commits.clean) in (
      is_open early,
      λ before stands.
          let brought = brings early before stands in
          (stored_as trees mid.now (change before) is brought.0, subst (AddsVerified (state g (record old { in_transaction = true })).now.trees) (sym is) brought.2),
    )) first commits)
