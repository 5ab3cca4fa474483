-- A scrub that goes on from row to row, and leaves the tables as they are.
use Rattle.std.proofs.Common.{◌≡◌, subst, sym, ◌∙◌, arith}
use Rattle.sqlite_trees.specs.Tree.{Trees}
use Rattle.sqlite.specs.State.{State, HasCleanDisk, KeepsCommit, Survives}
use Rattle.sqlite.proofs.StateLemmas.{survives_then}
use Rattle.part_store.specs.Entries.{Entries}
use Rattle.part_store.specs.Inside.{Stays}
use Rattle.part_store.specs.Refusals.{OnlyWhenFailed}
use Rattle.part_store.specs.Standing.{Stands}
use Rattle.part_store.specs.Tables.{store_schema}
use Rattle.part_store.specs.declared.error.StoreError.{StoreError}
use Rattle.part_store.proofs.Entering.{kept_then, stands_still}
use Rattle.part_store.proofs.Failing.{later_failed}

-- so far the tables are as they were, and this is so of what was read
pub record Scanned (Is : Trees → Entries → Type 0) (old now : State) : Type 0 where
  pub survives : Survives old now (λ _. ⊥)
  pub stays : HasCleanDisk now → Stays old now
  pub kept : HasCleanDisk now → old.now.schema ≡ store_schema → KeepsCommit old now
  pub read : HasCleanDisk now → (before : Entries) → Stands old.now before → Is old.now.trees before

-- one step more
pub scanned_more : (P Q : Trees → Entries → Type 0) (old mid new : State) → Scanned P old mid → Survives mid new (λ _. ⊥) → (HasCleanDisk new → Stays mid new)
    → (HasCleanDisk new → mid.now.schema ≡ store_schema → KeepsCommit mid new)
    → (HasCleanDisk new → (before : Entries) → Stands mid.now before → P mid.now.trees before → Q mid.now.trees before) → Scanned Q old new
scanned_more P Q old mid new so_far survives stays kept told =
    let early = λ (clean : HasCleanDisk new). let e : HasCleanDisk mid = omega (arith, survives.clean) in e in
    record {
      survives = survives_then old mid new (λ _. ⊥) (λ _. ⊥) (λ _. ⊥) (λ _ _ h. h) (λ _ _ h. h) so_far.survives survives;
      stays = λ clean has.
          let first = so_far.stays (early clean) has in
          let second = stays clean first.0 in
          (second.0, second.1 ∙ first.1);
      kept = λ clean has. kept_then old mid new (so_far.kept (early clean) has) (kept clean (so_far.stays (early clean) has).0);
      read = λ clean before stands.
          let still = so_far.stays (early clean) in
          let same = (still stands.schema).1 in
          let was = subst (λ t. P t before) (sym same) (so_far.read (early clean) before stands) in
          subst (λ t. Q t before) same (told clean before (stands_still old mid before still stands) was);
    }

-- a step that fails is a failure of them all
pub scan_blamed : (P : Trees → Entries → Type 0) (old mid new : State) (e : StoreError) → Scanned P old mid → Survives mid new (λ _. ⊥) → HasCleanDisk new
    → (mid.now.trees ≡ old.now.trees → OnlyWhenFailed mid new e) → OnlyWhenFailed old new e
scan_blamed P old mid new e so_far survives clean cause is before stands =
    let early : HasCleanDisk mid = omega (arith, clean, survives.clean) in
    let stays = so_far.stays early in
    later_failed old mid new so_far.survives survives clean (cause (stays stands.schema).1 is before (stands_still old mid before stays stands))
