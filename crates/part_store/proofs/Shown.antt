-- The rows of an answer over tables that stand for a state can be read.
use Rattle.std.proofs.Common.{◌≡◌, ℕ, ◌<◌, ◌^◌, true, List, [], ◌∷◌, length, map, filter, Option, Some, None, refl, sym, ap, ◌∙◌, arith}
use Rattle.std.specs.List.{AllByRecursion}
use Rattle.std.proofs.lemmas.Bool.{true≢false}
use Rattle.std.proofs.lemmas.List.Sorted.{IsPermutation-sym}
use Rattle.sqlite_value.specs.declared.value.Value.TheVariants.{Text, Blob}
use Rattle.sqlite_value.specs.Order.{Row, column}
use Rattle.sqlite_trees.specs.Tree.{Trees}
use Rattle.sqlite_rules.specs.Lists.{Has}
use Rattle.sqlite_rules.proofs.ListLemmas.{all_has, all_from, has_filtered}
use Rattle.sqlite_rules.proofs.ProbeLemmas.{has_mapped}
use Rattle.sqlite.specs.State.{State}
use Rattle.sqlite.specs.Values.{or_null}
use Rattle.part_store.specs.Tables.{users_tree, contents_tree}
use Rattle.part_store.specs.Changes.{columns, every, has_program, sized, IsListed, Reads, Steps}
use Rattle.part_store.specs.Entries.{Entries}
use Rattle.part_store.specs.Refusals.{AreNamed}
use Rattle.part_store.specs.Readings.{ShowsProgram, ShowsSize, ShowsUser}
use Rattle.part_store.specs.Standing.{IsContentRow, IsUserRow, Stands}
use Rattle.part_store.proofs.Equals.{blob_length}
use Rattle.part_store.proofs.Rows.{has_permuted}

-- a row of an answer is shown of one of the table
pub from_table : (tree : ℕ) (test : Row → _) (shown : Row → Row) (rows : List Row) (db : Trees) (row : Row) → IsListed tree test shown rows db → Has rows row
    → (r : Row) × Has (db tree) r × (test r ≡ true) × (row ≡ shown r)
from_table tree test shown rows db row listed there =
    let r = has_mapped shown (filter test (db tree)) row (has_permuted rows (map shown (filter test (db tree))) row (IsPermutation-sym _ _ listed.same) there) in
    let kept = has_filtered test (db tree) r.0 r.1 in
    (r.0, kept.0, kept.1, r.2)

some_program : (r : Row) (program : Option (List ℕ)) → column r 3 ≡ or_null Blob program → has_program r ≡ true → (octets : List ℕ) × (program ≡ Some octets)
some_program r None is has = absurd (true≢false (sym has ∙ rw is refl))
some_program r (Some octets) is has = (octets, refl)

module _ (old new : State) (before : Entries) (stands : Stands old.now before) (rows : List Row) where
  pub programs_show : AreNamed old.now.trees → Steps (Reads (IsListed users_tree has_program (columns (1 ∷ 3 ∷ [])) rows)) old new → AllByRecursion ShowsProgram rows
  programs_show named reads = all_from _ rows (λ row there.
      let r = from_table users_tree has_program (columns (1 ∷ 3 ∷ [])) rows old.now.trees row (reads stands.schema).change.1 there in
      let h = all_has (IsUserRow before) (old.now.trees users_tree) r.0 stands.tables.users r.1 in
      let program = some_program r.0 (before.programs h.1) (ap (λ (x : Row). column x 3) h.2) r.2 in
      let utf8 = all_has _ (old.now.trees users_tree) r.0 named r.1 h.1 (ap (λ (x : Row). column x 1) h.2) in
      let shown : ShowsProgram row = (h.1, utf8, program.0, r.3 ∙ ap (columns (1 ∷ 3 ∷ [])) h.2 ∙ ap (λ p. Text h.1 ∷ or_null Blob p ∷ []) program.1) in
      shown)

  pub users_show : AreNamed old.now.trees → Steps (Reads (IsListed users_tree every (columns (1 ∷ 2 ∷ 3 ∷ [])) rows)) old new → AllByRecursion ShowsUser rows
  users_show named reads = all_from _ rows (λ row there.
      let r = from_table users_tree every (columns (1 ∷ 2 ∷ 3 ∷ [])) rows old.now.trees row (reads stands.schema).change.1 there in
      let h = all_has (IsUserRow before) (old.now.trees users_tree) r.0 stands.tables.users r.1 in
      let utf8 = all_has _ (old.now.trees users_tree) r.0 named r.1 h.1 (ap (λ (x : Row). column x 1) h.2) in
      let short : before.lasts h.1 < 2 ^ 32 = omega (arith, stands.tables.numbers.limit h.1) in
      let shown : ShowsUser row = (h.1, utf8, before.lasts h.1, short, before.programs h.1, r.3 ∙ ap (columns (1 ∷ 2 ∷ 3 ∷ [])) h.2) in
      shown)

  pub sizes_show : Steps (Reads (IsListed contents_tree every sized rows)) old new → AllByRecursion ShowsSize rows
  sizes_show reads = all_from _ rows (λ row there.
      let r = from_table contents_tree every sized rows old.now.trees row (reads stands.schema).change.1 there in
      let h = all_has IsContentRow (old.now.trees contents_tree) r.0 stands.tables.contents r.1 in
      let shown : ShowsSize row = (h.1, length h.2, r.3 ∙ ap sized h.3 ∙ ap (λ v. Blob h.1 ∷ v ∷ []) (blob_length h.2)) in
      shown)
