-- What a query on one table answers that shows a column first and is in the order of that column.
use Rattle.std.proofs.Common.{◌≡◌, ℕ, ◌+◌, Bool, List, [], ◌∷◌, refl, ap, ap₂, sym, subst, subst₂, ◌∙◌, map, filter, inl, inr, Ordering, IsPermutation, IsSorted, arith}
use Rattle.std.proofs.lemmas.List.{get_or-map, length-map}
use Rattle.std.proofs.lemmas.List.Sorted.{IsPermutation-map, IsPermutation-sym}
use Rattle.std.specs.Ordering.{on}
use Rattle.sqlite_value.specs.declared.keys.Collation.TheVariants.{Binary}
use Rattle.sqlite_value.specs.declared.value.Value.TheVariants.{Null}
use Rattle.sqlite_value.specs.Keys.{ascending}
use Rattle.sqlite_value.specs.Order.{Row, column, value_cmp}
use Rattle.sqlite_value.proofs.OrderLemmas.{then-Equal}
use Rattle.sqlite_trees.specs.Tree.{Trees}
use Rattle.sqlite_sql.specs.Program.{overlay}
use Rattle.sqlite_sql.specs.Query.{IsAnswer, Output, Query, output, output_cmp}
use Rattle.sqlite_sql.specs.Term.{Env, Term, col}
use Rattle.sqlite_rules.specs.Lists.{Has}
use Rattle.sqlite_rules.proofs.ProbeLemmas.{has_mapped}
use Rattle.part_store.specs.Changes.{IsListed}
use Rattle.part_store.proofs.Meaning.{picked}
use Rattle.part_store.proofs.Rows.{passes, met, has_permuted}
use Rattle.part_store.proofs.Writes.{filter_same}

maps_once : {X : Type 0} (f : X → Env) (out : Env → Output) (show : X → Row) (xs : List X) → ((x : X) → (out (f x)).1 ≡ show x) → map (λ (o : Output). o.1) (map out (map f xs)) ≡ map show xs
maps_once f out show [] same = refl
maps_once f out show (x ∷ xs) same = ap₂ ◌∷◌ (same x) (maps_once f out show xs same)

-- an output as it is told by what it shows
abbrev back : Row → Output
back row = (column row 0 ∷ [], row)

backs : (xs : List Output) → ((o : Output) → Has xs o → o ≡ back o.1) → map back (map (λ (o : Output). o.1) xs) ≡ xs
backs [] each = refl
backs (x ∷ xs) each = ap₂ ◌∷◌ (sym (each x (inl refl))) (backs xs (λ o h. each o (inr h)))

from_map : {X Y : Type 0} (cmp : Y → Y → Ordering) (f : X → Y) (xs : List X) → IsSorted cmp (map f xs) → IsSorted (λ a b. cmp (f a) (f b)) xs
from_map cmp f xs sorted k d low high = rw (get_or-map f xs (k + 1) d (f d) high, get_or-map f xs k d (f d) (omega arith)) at (sorted k (f d) low (rw length-map high))

module _ (tree place : ℕ) (tests more : List Term) (db : Trees) (params : Row) (test : Row → Bool) (show : Row → Row) where
  abbrev query : Query
  query = picked tree tests (col 1 place ∷ more) ((col 1 place, ascending Binary) ∷ [])

  abbrev met_test : Row → Bool
  met_test = passes tree tests (col 1 place ∷ more) ((col 1 place, ascending Binary) ∷ []) db params

  by_first : (rows : List Row) → IsSorted (output_cmp query) (map back rows) → IsSorted (on (λ r. column r 0) value_cmp) rows
  by_first rows h = subst (λ (cmp : Row → Row → Ordering). IsSorted cmp rows) (λ i a b. then-Equal (value_cmp (column a 0) (column b 0)) i) (from_map (output_cmp query) back rows h)

  pub ordered : (rows : List Row) → IsAnswer query (overlay db []) params rows → ((r : Row) → met_test r ≡ test r) → ((r : Row) → (output query (params ∷ r ∷ [])).1 ≡ show r) → IsListed tree test show rows db
  ordered rows a tested shown =
      let met_rows = met tree tests (col 1 place ∷ more) ((col 1 place, ascending Binary) ∷ []) db params Null in
      let kept : a.kept ≡ map (output query) (map (λ r. params ∷ r ∷ []) (filter met_test (db tree))) = a.distinct ∙ ap (map (output query)) (a.grouped ∙ met_rows) in
      let same : filter met_test (db tree) ≡ filter test (db tree) = filter_same met_test test (db tree) (λ r _. tested r) in
      let shows : map (λ (o : Output). o.1) a.kept ≡ map show (filter test (db tree)) =
      ap (map (λ (o : Output). o.1)) kept ∙ maps_once (λ r. params ∷ r ∷ []) (output query) show (filter met_test (db tree)) shown ∙ ap (map show) same in
      record {
        same = subst₂ IsPermutation shows (sym a.shown) (IsPermutation-map (λ (o : Output). o.1) a.kept a.ordered a.same);
        sorted = by_first rows (subst (IsSorted (output_cmp query)) (sym (ap (map back) a.shown ∙ backs a.ordered (λ o there.
            let was = has_permuted a.ordered a.kept o (IsPermutation-sym a.kept a.ordered a.same) there in
            let env = has_mapped (output query) _ o (subst (λ l. Has l o) kept was) in
            let r = has_mapped (λ r. params ∷ r ∷ []) (filter met_test (db tree)) env.0 env.1 in
            let is : o ≡ output query (params ∷ r.0 ∷ []) = env.2 ∙ ap (output query) r.2 in
            is ∙ sym (ap (λ (o : Output). back o.1) is)))) a.sorted);
      }
