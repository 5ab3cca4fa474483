-- The rows of an answer about the contents come to what the table has.
use Rattle.std.proofs.Common.{◌≡◌, ℕ, List, [], ◌∷◌, length, map, filter, sum_by, refl, sym, ap, ◌∙◌, arith}
use Rattle.std.specs.List.{AllByRecursion}
use Rattle.std.proofs.lemmas.List.Sums.{sum_by-cons}
use Rattle.std.proofs.lemmas.List.Sorted.{sum_by-IsPermutation}
use Rattle.sqlite_value.specs.declared.value.Value.TheVariants.{Blob}
use Rattle.sqlite_value.specs.Order.{Row, column}
use Rattle.sqlite_sql.specs.declared.ops.UnaryOp.TheVariants.{Length}
use Rattle.sqlite_sql.specs.Ops.{unary}
use Rattle.sqlite.specs.State.{State}
use Rattle.part_store.specs.Tables.{contents_tree}
use Rattle.part_store.specs.Changes.{every, sized, IsListed, Reads, Steps}
use Rattle.part_store.specs.Entries.{Entries}
use Rattle.part_store.specs.Standing.{IsContentRow, Stands}
use Rattle.part_store.specs.Totals.{IsTotalOf, octets_in, octets_of}
use Rattle.part_store.specs.Readings.{number_of}
use Rattle.part_store.specs.declared.totals.ContentTotal.{ContentTotal}

abbrev shown : Row → ℕ
shown r = number_of (column r 1)

abbrev stored : Row → ℕ
stored r = octets_in (column r 2)

blob_length : (octets : List ℕ) → number_of (unary Length (Blob octets)) ≡ length octets
unfolding unary
blob_length octets = refl

one_size : (r : Row) → IsContentRow r → shown (sized r) ≡ stored r
one_size r h = ap (λ (x : Row). number_of (unary Length (column x 2))) h.3 ∙ blob_length h.2 ∙ sym (ap (λ (x : Row). octets_in (column x 2)) h.3)

sizes : (rows : List Row) → AllByRecursion IsContentRow rows → sum_by shown (map sized (filter every rows)) ≡ sum_by stored rows
sizes [] all = refl
sizes (r ∷ rows) all =
    omega (arith, sum_by-cons shown (sized r) (map sized (filter every rows)), sum_by-cons stored r rows, one_size r all.0, sizes rows all.1)

abbrev one : Row → ℕ
one r = 1

counted : (rows : List Row) → sum_by one rows ≡ length rows
counted [] = refl
counted (r ∷ rows) = omega (arith, sum_by-cons one r rows, counted rows)

counted_shown : (rows : List Row) → sum_by one (map sized (filter every rows)) ≡ length rows
counted_shown [] = refl
counted_shown (r ∷ rows) = omega (arith, sum_by-cons one (sized r) (map sized (filter every rows)), counted_shown rows)

pub is_total : (old new : State) (rows : List Row) (total : ContentTotal) → Steps (Reads (IsListed contents_tree every sized rows)) old new → total.contents ≡ length rows → total.octets ≡ sum_by shown rows
    → (before : Entries) → Stands old.now before → IsTotalOf (old.now.trees contents_tree) total
is_total old new rows total reads number octets before stands =
    let table = old.now.trees contents_tree in
    let listed = (reads stands.schema).change.1 in
    let same = λ (f : Row → ℕ). sum_by-IsPermutation f (map sized (filter every table)) rows listed.same in
    record {
      contents = number ∙ sym (counted rows) ∙ same one ∙ counted_shown table;
      octets = octets ∙ same shown ∙ sizes table stands.tables.contents;
    }

-- the octets that the rows show are those of the table
pub octets_shown : (old new : State) (rows : List Row) → Steps (Reads (IsListed contents_tree every sized rows)) old new → (before : Entries) → Stands old.now before
    → sum_by shown rows ≡ octets_of (old.now.trees contents_tree)
octets_shown old new rows reads before stands =
    let table = old.now.trees contents_tree in
    sum_by-IsPermutation shown (map sized (filter every table)) rows ((reads stands.schema).change.1).same ∙ sizes table stands.tables.contents
