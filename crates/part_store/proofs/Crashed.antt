-- What a crash leaves is found.
use Rattle.std.proofs.Common.{◌≡◌, ◌⊎◌, inl, inr, refl, sym, ap, subst, ◌∙◌, arith, IsTrue}
use Rattle.std.proofs.Math.Logic.{∥∥₁_map}
use Rattle.sqlite_disk.specs.declared.Disk.{Ghosts}
use Rattle.sqlite_trees.specs.Tree.{Trees}
use Rattle.sqlite.specs.declared.FileStore.{FileStore}
use Rattle.sqlite.specs.Effect.{Database}
use Rattle.sqlite.specs.Files.{file_state, HoldsDatabase, IsClosed}
use Rattle.sqlite.specs.FileStore.{recovers}
use Rattle.sqlite.specs.Held.{AreDatabases, Held}
use Rattle.sqlite.specs.Recovery.{Image}
use Rattle.sqlite.specs.State.{HasCleanDisk, Survives}
use Rattle.sqlite.proofs.Theorems.{opens_again}
use Rattle.sqlite_catalog.specs.Listing.{IsSound}
use Rattle.sqlite_schema.specs.declared.schema.Schema.{Schema}
use Rattle.sqlite_store.specs.Laws.{settled_at}
use Rattle.part_store.specs.Tables.{store_schema}
use Rattle.part_store.specs.Entries.{Entries, no_entries}
use Rattle.part_store.specs.Standing.{IsStored, MayMake}
use Rattle.part_store.specs.Opening.{HoldsNoTables, HoldsState, HoldsStore, IsAt}
use Rattle.part_store.specs.Crashes.{AreLeft, HasNumberedTrees, HoldsOneLeft, IsCutOff, KeepsState, LeavesStores, MayLeaveClosing, MayLeaveFiles}
use Rattle.part_store.proofs.Opened.{finds_none, has_tables, shows_held}
use Rattle.part_store.proofs.Stored.{stored_as}

-- files that hold the trees of a store hold the store
holds_stored : (image : Image) (trees : Trees) (e : Entries) → HoldsDatabase image trees → IsStored trees e → HoldsStore image e
holds_stored image trees e held stored = (
  record { schema = store_schema; trees = trees },
  record { trees = ∣ held ∣₁; listed = stored.listed },
  record { schema = refl; listed = stored.listed; tables = stored.tables },
)

some_state : (trees : Trees) (one other : Entries) → IsStored trees one ⊎ IsStored trees other → (e : Entries) × IsStored trees e
some_state trees one other (inl is) = (one, is)
some_state trees one other (inr is) = (other, is)

module _ {D : Type 0} {g : Ghosts D} where
  pub holds_one : (c : Held (FileStore D g)) → HasNumberedTrees c → LeavesStores (file_state c) → (image : Image) → MayLeaveFiles c image → ∥ HoldsOneLeft c image ∥₁
  holds_one c numbered stores image may =
      ∥∥₁_map (opens_again c.store numbered (λ trees left. (store_schema, (stores trees left).1.listed)) image may)
      (λ found. record { trees = found.0; may = found.1; same = λ listed. record { trees = ∣ found.2 ∣₁; listed = listed }; holds = λ e. holds_stored image found.0 e found.2 })

  -- so too of a close that failed or was cut off
  pub closing_holds_one : (c : Held (FileStore D g)) → (image : Image) → MayLeaveClosing c image → ∥ HoldsOneLeft c image ∥₁
  closing_holds_one c image it =
      ∥∥₁_map (opens_again it.last it.numbered (it.closed.sound it.clean) image it.may)
      (λ found. record { trees = found.0; may = it.closed.quiet.outcomes found.0 found.1; same = λ listed. record { trees = ∣ found.2 ∣₁; listed = listed }; holds = λ e. holds_stored image found.0 e found.2 })

  -- and of either
  pub left_holds_one : (c : Held (FileStore D g)) → LeavesStores (file_state c) → (image : Image) → AreLeft c image → ∥ HoldsOneLeft c image ∥₁
  left_holds_one c stores image (inl (numbered, may)) = holds_one c numbered stores image may
  left_holds_one c stores image (inr closing) = closing_holds_one c image closing

  -- while a store is open a crash leaves what is committed, and nothing else
  pub files_leave_committed : (c : Held (FileStore D g)) → ((file : D) → g.may_leave file (g.seen file)) → (trees : Trees) → IsTrue (file_state c).is_open → (file_state c).may_leave trees → trees ≡ (file_state c).committed.trees
  files_leave_committed c stays trees is_open left = settled_at c.store stays trees is_open left

  -- a crash leaves what was committed, or what the call may commit
  pub was_or_is : (change : Entries → Entries) (before : Entries) (old new : Held (FileStore D g))
      → ((trees : Trees) → IsTrue (file_state old).is_open → (file_state old).may_leave trees → trees ≡ (file_state old).committed.trees)
      → IsAt before (file_state old) → HasCleanDisk (file_state new) → Survives (file_state old) (file_state new) (MayMake change (file_state old))
      → (trees : Trees) → (file_state new).may_leave trees → IsStored trees before ⊎ IsStored trees (change before)
  was_or_is change before old new settled at clean survives trees may = elim (survives.crash clean trees may) [
    | inl was ↦ inl (stored_as trees (file_state old).now before (settled trees at.2 was ∙ ap (λ (d : Database). d.trees) at.1) at.0)
    | inr is ↦ inr (is before at.0).0
  ]

  pub holds_either : (image : Image) (c : Held (FileStore D g)) (one other : Entries) → ((trees : Trees) → (file_state c).may_leave trees → IsStored trees one ⊎ IsStored trees other)
      → HasNumberedTrees c → MayLeaveFiles c image → ∥ HoldsStore image one ⊎ HoldsStore image other ∥₁
  holds_either image c one other either numbered may =
      ∥∥₁_map (holds_one c numbered (λ trees left. some_state trees one other (either trees left)) image may)
      (λ it. let r : HoldsStore image one ⊎ HoldsStore image other = elim (either it.trees it.may) [ inl is ↦ inl (it.holds one is) | inr is ↦ inr (it.holds other is) ] in r)

  -- a close commits nothing, and each outcome of a crash in it is a database
  pub keeps_state : (c : Held (FileStore D g)) (last : FileStore D g)
      → ((trees : Trees) → IsTrue (file_state c).is_open → (file_state c).may_leave trees → trees ≡ (file_state c).committed.trees)
      → IsClosed c last → (e : Entries) → IsAt e (file_state c) → KeepsState last e
  keeps_state c last settled closed e at =
      let stored = λ (trees : Trees) (left : recovers last trees).
      let r : IsStored trees e = stored_as trees (file_state c).now e (settled trees at.2 (closed.quiet.outcomes trees left) ∙ ap (λ (d : Database). d.trees) at.1) at.0 in r in
      record {
        trees = stored;
        files = λ clean numbered image may. ∥∥₁_map (opens_again last numbered (closed.sound clean) image may) (λ found. holds_stored image found.0 e found.2 (stored found.0 found.1));
      }

  -- what a crash leaves of files that were opened, where each of it is a database
  abbrev OneDatabase : Held (FileStore D g) → Image → Type 0
  OneDatabase c image = (trees : Trees) × recovers c.store trees × HoldsDatabase image trees

  one_database : (c : Held (FileStore D g)) (image : Image) → AreDatabases (recovers c.store) → AreLeft c image → ∥ OneDatabase c image ∥₁
  one_database c image sound (inl (numbered, may)) = opens_again c.store numbered sound image may
  one_database c image sound (inr it) =
      ∥∥₁_map (opens_again it.last it.numbered (it.closed.sound it.clean) image it.may)
      (λ found. let r : OneDatabase c image = (found.0, it.closed.quiet.outcomes found.0 found.1, found.2) in r)

  module _ (image other : Image) (it : IsCutOff g image other) (stays : (file : D) → g.may_leave file (g.seen file)) (held : Entries) where
    early : HasCleanDisk (file_state it.found)
    early = omega (arith, it.clean, it.survives.clean)

    -- what was found is all that a crash could leave then
    found_only : (trees : Trees) → (file_state it.found).may_leave trees → trees ≡ (file_state it.found).now.trees
    found_only trees may =
        let opens = (it.there.opened early).0 in
        files_leave_committed it.found stays trees opens.is_open may ∙ ap (λ (d : Database). d.trees) (sym opens.clean)

    abbrev Still : Type 0
    Still = HoldsState other held

    cut_off_store : HoldsStore image held → ∥ Still ∥₁
    cut_off_store holds =
        let opened = it.there.opened early in
        let at = shows_held image (file_state it.found) opened.0 opened.1 (it.there.finds early) held holds in
        let stored = λ (trees : Trees) (may : recovers it.now.store trees). let r : IsStored trees held = elim (it.survives.crash it.clean trees may) [
          | inl was ↦ stored_as trees (file_state it.found).now held (found_only trees was) at.0
          | inr made ↦ absurd (has_tables (file_state it.found) at.0.schema made.1)
        ] in r in
        ∥∥₁_map (one_database it.now other (λ trees may. (store_schema, (stored trees may).listed)) it.left)
        (λ found. let r : Still = inl (holds_stored other found.0 held found.2 (stored found.0 found.1)) in r)

    -- trees that were left where there were no tables: those that were found, or the empty store's
    abbrev Begun : Trees → Type 0
    Begun trees = (trees ≡ (file_state it.found).now.trees) ⊎ IsStored trees no_entries

    cut_off_none : HoldsNoTables image → held ≡ no_entries → ∥ Still ∥₁
    cut_off_none none is =
        let opened = it.there.opened early in
        let bare = finds_none image (file_state it.found) opened.0 opened.1 (it.there.finds early) none in
        let listed = (opened.1 opened.0.is_open).0 in
        let begun = λ (trees : Trees) (may : recovers it.now.store trees). let r : Begun trees = elim (it.survives.crash it.clean trees may) [
          | inl was ↦ inl (found_only trees was)
          | inr made ↦ inr made.2
        ] in r in
        let sound = λ (trees : Trees) (may : recovers it.now.store trees). let r : (schema : Schema) × IsSound schema trees = elim (begun trees may) [
          | inl same ↦ ((file_state it.found).now.schema, subst (IsSound (file_state it.found).now.schema) (sym same) listed)
          | inr stored ↦ (store_schema, stored.listed)
        ] in r in
        ∥∥₁_map (one_database it.now other sound it.left) (λ found. let r : Still = elim (begun found.0 found.1) [
          | inl same ↦ inr (inr ((file_state it.found).now, record { trees = ∣ subst (HoldsDatabase other) same found.2 ∣₁; listed = listed }, bare), is)
          | inr stored ↦ inl (subst (HoldsStore other) (sym is) (holds_stored other found.0 no_entries found.2 stored))
        ] in r)

    pub cut_off_leaves : HoldsState image held → ∥ HoldsState other held ∥₁
    cut_off_leaves (inl holds) = cut_off_store holds
    cut_off_leaves (inr (none, is)) = cut_off_none none is
