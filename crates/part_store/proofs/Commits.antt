-- What the commit of a transaction leaves, and makes.
use Rattle.std.proofs.Common.{◌≡◌, IsTrue, sym, subst, ◌∙◌, arith, false, refl, true}
use Rattle.sqlite_trees.specs.Tree.{Trees}
use Rattle.sqlite_trees.specs.declared.store.Store as store
use Rattle.sqlite.specs.Effect.{Database}
use Rattle.sqlite.specs.Held.{Held, state}
use Rattle.sqlite.specs.State.{State, HasCleanDisk, Shows, Survives}
use Rattle.sqlite.proofs.Callers.{survives_begin}
use Rattle.sqlite.proofs.StateLemmas.{survives_then}
use Rattle.part_store.specs.Entries.{Entries}
use Rattle.part_store.specs.Inside.{Brings}
use Rattle.part_store.specs.Standing.{AddsVerified, Makes, MayMake, Stands}
use Rattle.part_store.proofs.Stored.{stored_as}

module _ {S : Type 0} (g : store.Ghosts S) (old : Held S) (mid new : State) where
  abbrev begun : State
  begun = state g (record old { in_transaction = true })

  -- what a transaction brings is the store of it
  pub brought_store : (change : Entries → Entries) → Brings change begun mid → MayMake change (state g old) mid.now.trees
  brought_store change brings before stands = let brought = brings before stands in (stored_as mid.now.trees mid.now (change before) refl brought.0, brought.2)

  -- what a transaction shows is all that its commit may leave beside what was
  pub commits_shown : (Commits : Trees → Type 0) → Survives begun mid (λ _. ⊥) → (HasCleanDisk mid → Commits mid.now.trees) → Survives mid new (λ trees. trees ≡ mid.now.trees) → Survives (state g old) new Commits
  commits_shown Commits first shown commits =
      survives_begin g old new _ (survives_then begun mid new (λ _. ⊥) (λ trees. trees ≡ mid.now.trees) Commits (λ clean trees none. absurd none)
      (λ clean trees is. let early : HasCleanDisk mid = omega (arith, commits.clean) in subst Commits (sym is) (shown early)) first commits)

  -- once a change is committed, it is made
  pub committed_made : (change : Entries → Entries) → IsTrue begun.is_open → Brings change begun mid → Shows mid new mid.now mid.now false → Makes change (state g old) new
  committed_made change was_open brings shows = (
    (was_open, shows.is_open, shows.committed_is ∙ sym shows.now_is),
    λ before stands.
        let brought = brings before stands in
        (subst (λ d. Stands d (change before)) (sym shows.now_is) brought.0, subst (λ (d : Database). AddsVerified begun.now.trees d.trees) (sym shows.now_is) brought.2),
  )
