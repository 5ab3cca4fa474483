-- Tables that gain or lose rows.
use Rattle.std.proofs.Common.{◌≡◌, ◌⊎◌, inl, inr, ℕ, Bool, true, false, List, [], ◌∷◌, filter, sym, subst, Ordering, Less, Equal, Greater, is_eq, IsTrue}
use Rattle.std.specs.Ordering.{match_ordering}
use Rattle.sqlite_rules.specs.Edit.{is_taken}
use Rattle.std.specs.List.{AllByRecursion}
use Rattle.std.proofs.lemmas.Bool.{cases_Bool, true≢false, or_parts}
use Rattle.sqlite_value.specs.Order.{Row, value_cmp}
use Rattle.sqlite_trees.specs.Tree.{Trees, rowid, IsAscending, IsTable, put_row}
use Rattle.sqlite_trees.specs.View.{is_int}
use Rattle.sqlite_trees.proofs.TreeLemmas.{IsTable-put_row}
use Rattle.sqlite_rules.specs.Lists.{Has}
use Rattle.sqlite_rules.proofs.ListLemmas.{all_has, all_from, has_filtered}
use Rattle.sqlite_rules.proofs.TableLemmas.{has_put, put_has}
use Rattle.part_store.specs.Changes.{new_row, IsAdded, IsPut}

pub filter_rises : {X : Type 0} (R : X → X → Type 0) (p : X → Bool) (xs : List X) → IsAscending R xs → IsAscending R (filter p xs)
filter_rises R p [] up = tt
filter_rises R p (x ∷ xs) up = elim (cases_Bool (p x)) [
  | inl e ↦ rw e (all_from _ (filter p xs) (λ y h. all_has _ xs y up.0 (has_filtered p xs y h).0), filter_rises R p xs up.1)
  | inr e ↦ rw e (filter_rises R p xs up.1)
]

abbrev Put : Ordering → Row → Row → List Row → List Row
Put o new r rows = match_ordering o (r ∷ put_row new rows) (new ∷ rows) (new ∷ r ∷ rows)

put_keeps : (new : Row) (rows : List Row) (x : Row) → is_taken rows new ≡ false → Has rows x → Has (put_row new rows) x
put_keeps new [] x free h = absurd h
put_keeps new (r ∷ rows) x free h = go (value_cmp (rowid r) (rowid new)) (or_parts _ _ free).0 h (put_keeps new rows x (or_parts _ _ free).1)
  where
    go : (o : Ordering) → is_eq o ≡ false → Has (r ∷ rows) x → (Has rows x → Has (put_row new rows) x) → Has (Put o new r rows) x
    go Less other (inl same) later = inl same
    go Less other (inr there) later = inr (later there)
    go Equal other here later = absurd (true≢false other)
    go Greater other here later = inr here

module _ (tree : ℕ) (row : Row) (old new : Trees) (h : IsPut tree row old new) where
  -- the table with one more row rises too
  pub rises_with : IsTable (old tree) → IsTable (new tree)
  rises_with up = subst IsTable (sym h.rows) (IsTable-put_row row (old tree) up)

  -- its rows are those that were there, and the new one
  pub put_or_was : (r : Row) → Has (new tree) r → (r ≡ row) ⊎ Has (old tree) r
  put_or_was r there = put_has row (old tree) r (subst (λ rows. Has rows r) h.rows there)

  pub has_put_row : Has (new tree) row
  has_put_row = subst (λ rows. Has rows row) (sym h.rows) (has_put row (old tree))

  pub stays_beside : (r : Row) → Has (old tree) r → Has (new tree) r
  stays_beside r there = subst (λ rows. Has rows r) (sym h.rows) (put_keeps row (old tree) r h.free there)

pub added_rises : (tree : ℕ) (values : Row) (old new : Trees) → IsAdded tree values old new → IsTable (old tree) → IsTable (new tree)
added_rises tree values old new h up = rises_with tree (new_row (old tree) values) old new h up

pub added_has : (tree : ℕ) (values : Row) (old new : Trees) (r : Row) → IsAdded tree values old new → Has (new tree) r → (r ≡ new_row (old tree) values) ⊎ Has (old tree) r
added_has tree values old new r h there = put_or_was tree (new_row (old tree) values) old new h r there

pub has_added : (tree : ℕ) (values : Row) (old new : Trees) → IsAdded tree values old new → Has (new tree) (new_row (old tree) values)
has_added tree values old new h = has_put_row tree (new_row (old tree) values) old new h

pub added_keeps : (tree : ℕ) (values : Row) (old new : Trees) (r : Row) → IsAdded tree values old new → Has (old tree) r → Has (new tree) r
added_keeps tree values old new r h there = stays_beside tree (new_row (old tree) values) old new h r there

-- a table whose rows all begin with an integer has rowids
pub keyed_all : (P : Row → Type 0) (rows : List Row) → ((r : Row) → P r → is_int (rowid r) ≡ true) → AllByRecursion P rows → AllByRecursion (λ r. IsTrue (is_int (rowid r))) rows
keyed_all P rows key all = all_from _ rows (λ r h. key r (all_has P rows r all h))
