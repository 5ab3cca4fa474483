-- What an INSERT and a DELETE leave.
use Rattle.std.proofs.Common.{◌≡◌, ◌⊎◌, inl, inr, ℕ, ◌/◌, ℤ, Bool, true, false, cond, not, ◌&&◌, ◌||◌, ◌==◌, flat_map, filter_map, List, [], ◌∷◌, append-nil, map, filter, length, drop, slice_get, Some, None, Ok, Err, Result, refl, sym, ap, subst, ◌∙◌, IsTrue, Ordering, Less, Equal, Greater, is_eq}
use Rattle.std.specs.List.{AllByRecursion, list_any}
use Rattle.std.proofs.lemmas.Bool.{true≢false, cases_Bool, and_parts, not-true, false_from_ne_true}
use Rattle.std.proofs.lemmas.Cmp.{tied_itself}
use Rattle.sqlite_value.specs.declared.value.Value.{Value}
use Rattle.sqlite_value.specs.declared.value.Value.TheVariants.{Null, Int}
use Rattle.sqlite_value.specs.Order.{Row, value_cmp}
use Rattle.sqlite_value.proofs.OrderLemmas.{value_cmp_total}
use Rattle.sqlite_trees.specs.Tree.{Trees, rowid, IsTable, has_rowid, without_rowid}
use Rattle.sqlite_trees.specs.View.{is_int}
use Rattle.sqlite_sql.specs.Query.{IsAnswer}
use Rattle.sqlite_sql.specs.Program.{overlay}
use Rattle.sqlite_sql.specs.Term.{Term, col, eval_all}
use Rattle.sqlite_sql.specs.Ops.{unary}
use Rattle.sqlite_sql.specs.Query.{Query}
use Rattle.sqlite_schema.specs.Rules.{parent_key}
use Rattle.sqlite_schema.specs.declared.schema.Column.{Column}
use Rattle.sqlite_schema.specs.declared.schema.Reference.{Reference}
use Rattle.sqlite_schema.specs.declared.schema.Table.{Table}
use Rattle.sqlite_schema.specs.declared.schema.Kind.TheVariants as kind
use Rattle.sqlite_schema.specs.declared.schema.Keys.TheVariants.{Enforced}
use Rattle.sqlite_schema.specs.declared.command.Source.TheVariants.{Values}
use Rattle.sqlite_schema.specs.declared.command.Command.TheVariants.{Insert, Delete}
use Rattle.sqlite_rules.specs.declared.error.Rowids.TheVariants.{Chosen, Given}
use Rattle.sqlite_rules.specs.Cast.{cast, cast_row}
use Rattle.sqlite_rules.specs.Lists.{Has}
use Rattle.sqlite_rules.specs.Edit.{Applies, Edit, id_in, numbered, with_rowid, are_fresh, put_all, edit_of, without_all, taken_by}
use Rattle.sqlite_rules.specs.Action.{works, work_by, pairs, deed_for}
use Rattle.sqlite_rules.specs.Action as action
use Rattle.sqlite_rules.specs.Calls.{ids_of}
use Rattle.sqlite_rules.proofs.ListLemmas.{all_has, some_has, some_from}
use Rattle.sqlite_rules.proofs.ProbeLemmas.{has_mapped, mapped_has}
use Rattle.sqlite_rules.proofs.PlaceLemmas.{Tied, tied_same}
use Rattle.sqlite_rules.proofs.TableLemmas.{int_is}
use Rattle.sqlite.specs.Effect.{Database, IsSource, value_rows}
use Rattle.sqlite.specs.Does.{Tally, Does}
use Rattle.sqlite.specs.Rows.{Written}
use Rattle.sqlite.specs.State.{State, mode_of, Writes}
use Rattle.sqlite.proofs.Callers.{one_step}
use Rattle.part_store.specs.Tables.{keyed, store_schema}
use Rattle.part_store.specs.Changes.{new_row, IsAdded, IsTaken}
use Rattle.part_store.proofs.Meaning.{picked, alone}
use Rattle.part_store.proofs.Rows.{passes, answer_from, answer_has}

-- a part that gave a value did not stop on the way
pub went : {B E R : Type 0} {b : B} {Stops : E → Type 0} → ((stop : E) × Stops stop × (Ok b ≡ Err stop)) ⊎ R → R
went (inl stopped) = absurd (let e = stopped.2 in cc)
went (inr on) = on

pub same_value : {B E : Type 0} {a b : B} → ◌≡◌ {A = Result B E} (Ok a) (Ok b) → a ≡ b
same_value e = cc

pub equal_is : (o : Ordering) → is_eq o ≡ true → o ≡ Equal
equal_is Less h = absurd (cc)
equal_is Equal h = refl
equal_is Greater h = absurd (cc)

-- no foreign key acts
pub no_works : (tree : ℕ) (olds news : List Row) → works store_schema Enforced 0 tree olds news ≡ []
no_works tree olds news =
    elim (length news == 0) as (λ b. flat_map (λ child. filter_map (λ ref. work_by 0 tree (pairs olds news) child ref (deed_for Enforced b ref) (parent_key store_schema.tables ref)) child.references) store_schema.tables ≡ [])
    [ true ↦ refl | false ↦ refl ]

-- ---- rows that are taken out by their rowids

abbrev has_one : List ℤ → Row → Bool
has_one ids r = list_any (λ id. has_rowid id r) ids

pub filter_same : {X : Type 0} (p q : X → Bool) (xs : List X) → ((x : X) → Has xs x → p x ≡ q x) → filter p xs ≡ filter q xs
filter_same p q [] same = refl
filter_same p q (x ∷ xs) same = rw (same x (inl refl), filter_same p q xs (λ y h. same y (inr h)))

filter_twice : {X : Type 0} (p q : X → Bool) (xs : List X) → filter q (filter p xs) ≡ filter (λ x. p x && q x) xs
filter_twice p q [] = refl
filter_twice p q (x ∷ xs) = elim (cases_Bool (p x)) [
  | inl e ↦ rw (e, filter_twice p q xs)
  | inr e ↦ rw (e, filter_twice p q xs)
]

keep_all : {X : Type 0} (xs : List X) → filter (λ _. true) xs ≡ xs
keep_all [] = refl
keep_all (x ∷ xs) = ap (λ ys. x ∷ ys) (keep_all xs)

pub taken_out : (ids : List ℤ) (rows : List Row) → without_all rows ids ≡ filter (λ r. not (has_one ids r)) rows
taken_out [] rows = sym (keep_all rows)
taken_out (id ∷ ids) rows = taken_out ids (without_rowid id rows) ∙ filter_twice _ _ rows ∙ filter_same _ _ rows (λ r _. elim (has_rowid id r) as (λ b. (not b && not (has_one ids r)) ≡ not (b || has_one ids r)) [ true ↦ refl | false ↦ refl ])

-- ---- a column of the values that it holds

either : (b : Bool) (x : Value) → cond b x x ≡ x
either true x = refl
either false x = refl

pub cast_null : cast kind.Integer Null ≡ Null
unfolding unary
cast_null = either _ Null

pub cast_int : (n : ℤ) → cast kind.Integer (Int n) ≡ Int n
unfolding unary
cast_int n = either _ (Int n)

module _ (at tree : ℕ) (name : List ℕ) (columns : List Column) (key : List ℕ) (references : List Reference)
    (there : slice_get store_schema.tables at ≡ Some (record (keyed name columns key references) { tree = tree })) where
  abbrev table : Table
  table = record (keyed name columns key references) { tree = tree }

  abbrev insertion : Trees → List Row → Edit
  insertion db rows = edit_of db (table) [] Chosen 0 rows

  -- the new row is the source's, with the next rowid
  pub put_is : (db : Trees) (rows : List Row) (source values : Row) → rows ≡ source ∷ [] → cast_row (table) (drop 0 source) ≡ Null ∷ values → (insertion db rows).news ≡ new_row (db tree) values ∷ []
  put_is db rows source values sources casts = ap (λ all. numbered Chosen (db tree) (map (λ s. cast_row (table) (drop 0 s)) all)) sources ∙ ap (λ row. with_rowid Chosen (db tree) row ∷ []) casts

  pub added_next : (db next : Trees) (rows : List Row) (values : Row) → (insertion db rows).news ≡ new_row (db tree) values ∷ [] → Applies store_schema Enforced db (insertion db rows) next → IsAdded tree values db next
  added_next db next rows values news applied =
      let free = subst (λ n. are_fresh (db tree) n ≡ true) news applied.fresh in
      record { free = not-true _ (and_parts _ _ free).0; rows = applied.rows ∙ ap (put_all (db tree)) news; others = applied.tables }

  put_one : (db next : Trees) (rows : List Row) (source values : Row) → rows ≡ source ∷ [] → cast_row (table) (drop 0 source) ≡ Null ∷ values
      → action.Writes store_schema Enforced db (insertion db rows) (Ok next) → IsAdded tree values db next
  put_one db next rows source values sources casts h =
      let edit = insertion db rows in
      added_next db next rows values (put_is db rows source values sources casts) (one_step store_schema Enforced db next edit (no_works tree (taken_by db edit) edit.news) h)

  -- of a query that shows rowids first, a row's rowid is among those of the answer exactly where it passes
  module _ (db : Trees) (params : Row) (tests shows : List Term) where
    abbrev pub passing : Row → Bool
    passing = passes tree tests (col 1 0 ∷ shows) [] db params

    abbrev pub rows_answer : Query
    rows_answer = picked tree tests (col 1 0 ∷ shows) []

    pub taken_test : (rows : List Row) → IsAnswer rows_answer (overlay db []) params rows → IsTable (db tree) → AllByRecursion (λ r. IsTrue (is_int (rowid r))) (db tree)
        → (r : Row) → Has (db tree) r → not (has_one (ids_of rows) r) ≡ not (passing r)
    taken_test rows a up keyed r h = elim (cases_Bool (passing r)) [
      | inl passed ↦
          let shown = answer_has tree tests (col 1 0 ∷ shows) [] db params rows r a h passed in
          let one = mapped_has (λ (x : Row). id_in (rowid x)) rows (eval_all (col 1 0 ∷ shows) (params ∷ r ∷ [])) shown in
          let is : has_rowid (id_in (rowid r)) r ≡ true = rw (int_is (rowid r) (all_has _ (db tree) r keyed h)) (ap is_eq (tied_itself value_cmp_total (Int (id_in (rowid r))))) in
          rw (passed, some_from (λ id. has_rowid id r) (ids_of rows) (id_in (rowid r)) one is)
      | inr failed ↦ rw failed (ap not (false_from_ne_true _ (λ taken.
          let id = some_has (λ id. has_rowid id r) (ids_of rows) taken in
          let row = has_mapped (λ (x : Row). id_in (rowid x)) rows id.0 id.1 in
          let from = answer_from tree tests (col 1 0 ∷ shows) [] db params rows row.0 a row.1 in
          let same : Int id.0 ≡ rowid from.0 = ap Int (row.2 ∙ ap (λ (x : Row). id_in (rowid x)) from.3) ∙ sym (int_is (rowid from.0) (all_has _ (db tree) from.0 keyed from.1)) in
          let tie : Tied r from.0 = subst (λ v. value_cmp (rowid r) v ≡ Equal) same (equal_is _ id.2) in
          let one = tied_same (db tree) r from.0 up h from.1 tie in
          let e : passing r ≡ true = rw one from.2 in
          absurd (true≢false (sym e ∙ failed)))))
    ]

    -- so without these rowids the table has the rows that don't pass
    pub left_of : (rows : List Row) → IsAnswer rows_answer (overlay db []) params rows → IsTable (db tree) → AllByRecursion (λ r. IsTrue (is_int (rowid r))) (db tree)
        → without_all (db tree) (ids_of rows) ≡ filter (λ r. not (passing r)) (db tree)
    left_of rows a up keyed = taken_out (ids_of rows) (db tree) ∙ filter_same _ _ (db tree) (taken_test rows a up keyed)

  module _ (db : Trees) (params : Row) (tests : List Term) where
    abbrev pub test : Row → Bool
    test = passing db params tests []

    abbrev ids_answer : Query
    ids_answer = rows_answer db params tests []

    -- the edit that a deletion comes to takes out the rows that pass
    pub taken_next : (rows : List Row) (next : Trees) → IsAnswer ids_answer (overlay db []) params rows → Applies store_schema Enforced db (edit_of db (table) (ids_of rows) Given 0 []) next → IsTaken tree test db next
    taken_next rows next sure applied = record {
      rows = λ up keyed. applied.rows ∙ left_of db params tests [] rows sure up keyed;
      others = applied.tables;
    }

  module _ (old new : State) (params : Row) (text : List ℕ) (count : ℕ) (has : old.now.schema ≡ store_schema) where
    abbrev db : Trees
    db = old.now.trees

    pub inserted : (terms : List Term) (width : ℕ) (source values : Row) → value_rows params width (length terms / width) terms ≡ source ∷ [] → cast_row (table) (drop 0 source) ≡ Null ∷ values
        → Writes old new None (Insert at (Values terms width)) text params count → (new.now.schema ≡ store_schema) × IsAdded tree values old.now.trees new.now.trees
    inserted terms width source values one casts w =
        let done = went (rw there at (subst (λ s. Does old.step_limit (mode_of old) params (record old.now { schema = s }) text None (Insert at (Values terms width)) (Ok (w.tally, new.now))) has w.changed)) in
        let now = ap (λ (p : Tally × Database). p.1) (same_value (went (went done.2).2).2) in
        let given = went done.1 in
        let written = went (went given.2).2 in
        let counted = went written.2 in
        let trees : done.0.trees ≡ written.0 = ap (λ (it : Written). it.trees) (same_value counted.2) ∙ same_value counted.1 in
        let sources : given.0 ≡ source ∷ [] = (subst (λ p. IsSource (record { schema = store_schema; trees = db }) p (Values terms width) given.0) (append-nil params) given.1).1 ∙ one in
        let all : new.now.trees ≡ written.0 = ap (λ (d : Database). d.trees) now ∙ trees in
        (ap (λ (d : Database). d.schema) now, subst (IsAdded tree values db) (sym all) (put_one db written.0 given.0 source values sources casts written.1))

    module _ (tests : List Term) where
      pub deleted : Writes old new None (Delete at (alone (ids_answer db params tests))) text params count → (new.now.schema ≡ store_schema) × IsTaken tree (test db params tests) old.now.trees new.now.trees
      deleted w =
          let done = went (rw there at (subst (λ s. Does old.step_limit (mode_of old) params (record old.now { schema = s }) text None (Delete at (alone (ids_answer db params tests))) (Ok (w.tally, new.now))) has w.changed)) in
          let now = ap (λ (p : Tally × Database). p.1) (same_value (went (went done.2).2).2) in
          let answer = went done.1 in
          let rows = answer.0 in
          let written = went answer.2 in
          let trees : done.0.trees ≡ written.0 = ap (λ (it : Written). it.trees) (same_value written.2) in
          let edit = edit_of db (table) (ids_of rows) Given 0 [] in
          let applied = one_step store_schema Enforced db written.0 edit (no_works tree (taken_by db edit) edit.news) written.1 in
          let all : new.now.trees ≡ written.0 = ap (λ (d : Database). d.trees) now ∙ trees in
          let sure = answer.1.answer Null in
          (ap (λ (d : Database). d.schema) now, subst (IsTaken tree (test db params tests) db) (sym all) (taken_next db params tests rows written.0 sure applied))
