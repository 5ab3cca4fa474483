-- A listing that fails at a row.
use Rattle.std.proofs.Common.{◌≡◌, inl, inr, ℕ, zero, suc, ◌<◌, ◌≤◌, List, [], ◌∷◌, length, get_or, refl, sym, subst, ◌∙◌, bytes_eq, nat_lt, arith}
use Rattle.std.specs.List.{AllZip}
use Rattle.sqlite_value.specs.Order.{Row}
use Rattle.sqlite_trees.specs.Tree.{Trees}
use Rattle.sqlite_rules.specs.Lists.{Has}
use Rattle.sqlite_rules.proofs.ListLemmas.{all_has, has_filtered}
use Rattle.sqlite.specs.State.{State, HasCleanDisk, Survives}
use Rattle.sqlite.proofs.StateLemmas.{survives_then}
use Rattle.octets.specs.Limits.{max_entry_number}
use Rattle.part_store.specs.Tables.{entries_tree}
use Rattle.part_store.specs.Changes.{columns, is_since, IsListed, Reads, Steps}
use Rattle.part_store.specs.Entries.{Entry, entries_of, entries_since}
use Rattle.part_store.specs.Refusals.{OnlyWhenFailed}
use Rattle.part_store.specs.Readings.{Shows}
use Rattle.part_store.specs.Standing.{Stands, StandsFor}
use Rattle.part_store.specs.declared.entry.EntryRow.{EntryRow}
use Rattle.part_store.specs.declared.error.StoreError.{StoreError}
use Rattle.part_store.proofs.Entering.{stands_still}
use Rattle.part_store.proofs.Failing.{later_failed}
use Rattle.part_store.proofs.Showing.{Reading, answer_shows}

-- the entry that the row at a place shows
shown_at : (db : Trees) (rows : List Row) (xs : List Entry) (place : ℕ) (row : Row) → AllZip (Shows db) rows xs → place < length rows → row ≡ get_or rows place row
    → (x : Entry) × Has xs x × Shows db row x
shown_at db [] xs place row all lt is = absurd (omega (arith, lt))
shown_at db (r ∷ rows) [] place row all lt is = absurd all
shown_at db (r ∷ rows) (y ∷ xs) zero row all lt is = (y, inl refl, subst (λ w. Shows db w y) (sym is) all.0)
shown_at db (r ∷ rows) (y ∷ xs) (suc place) row all lt is =
    let more = shown_at db rows xs place row all.1 (omega (arith, lt)) is in
    (more.0, inr more.1, more.2)

module _ (old one mid new : State) (user : List ℕ) (number : ℕ) (rows : List Row) (place : ℕ) (row : Row) (out : List EntryRow) (e : StoreError)
    (reads : Steps (Reads (IsListed entries_tree (is_since user number) (columns (2 ∷ 4 ∷ 3 ∷ 5 ∷ 6 ∷ 7 ∷ [])) rows)) old one) (survives : Survives old one (λ _. ⊥))
    (lt : place < length rows) (is : row ≡ get_or rows place row) (so_far : Reading rows place out one mid) (last : Survives mid new (λ _. ⊥)) (clean : HasCleanDisk new)
    (cause : (x : Entry) → Shows mid.now.trees row x → x.number ≤ max_entry_number → OnlyWhenFailed mid new e) where
  pub listing_blamed : OnlyWhenFailed old new e
  listing_blamed told before stands =
      let early : HasCleanDisk mid = omega (arith, clean, last.clean) in
      let step = reads stands.schema in
      let there : Stands one.now before =
      record { schema = step.schema; listed = step.listed stands.listed; tables = subst (λ t. StandsFor t before) (sym step.change.0) stands.tables } in
      let stays = so_far.stays early in
      let same : mid.now.trees ≡ old.now.trees = (stays there.schema).1 ∙ step.change.0 in
      let x = shown_at old.now.trees rows (entries_since user number before) place row (answer_shows old one user number rows reads before stands) lt is in
      let late = has_filtered (λ (y : Entry). nat_lt number y.number) (entries_of user before) x.0 x.1 in
      let kept = has_filtered (λ (y : Entry). bytes_eq y.user user) before.entries x.0 late.0 in
      let given = all_has (λ (y : Entry). (1 ≤ y.number) × (y.number ≤ before.lasts y.user)) before.entries x.0 stands.tables.numbers.given kept.0 in
      let low : x.0.number ≤ max_entry_number = omega (arith, given.1, stands.tables.numbers.limit x.0.user) in
      let failed = cause x.0 (subst (λ t. Shows t row x.0) (sym same) x.2) low told before (stands_still one mid before stays there) in
      let rest = survives_then one mid new (λ _. ⊥) (λ _. ⊥) (λ _. ⊥) (λ _ _ h. h) (λ _ _ h. h) so_far.survives last in
      later_failed old one new survives rest clean (later_failed one mid new so_far.survives last clean failed)
