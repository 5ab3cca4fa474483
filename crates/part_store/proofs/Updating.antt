-- What an UPDATE of one row leaves, and why it is refused.
use Rattle.std.proofs.Common.{◌≡◌, ◌≢◌, ◌⊎◌, inl, inr, ℕ, Bool, true, false, not, ◌&&◌, List, [], ◌∷◌, drop, filter, Option, Some, None, Ok, Err, refl, sym, ap, ap₂, subst, ◌∙◌, slice_get, Equal, IsSome, IsTrue}
use Rattle.std.specs.List.{AllByRecursion, list_all}
use Rattle.std.proofs.lemmas.Bool.{true≢false, and_cases, and_parts, not-true, false_from_ne_true}
use Rattle.sqlite_value.specs.Order.{Row, value_cmp}
use Rattle.sqlite_value.specs.declared.value.Value.TheVariants.{Null}
use Rattle.sqlite_trees.specs.Tree.{Trees, rowid, IsTable, with_tree}
use Rattle.sqlite_trees.specs.View.{is_int}
use Rattle.sqlite_sql.specs.Ops.{fits_i64}
use Rattle.sqlite_sql.specs.Program.{overlay}
use Rattle.sqlite_sql.specs.Query.{Query, IsAnswer}
use Rattle.sqlite_sql.specs.Term.{Term, col}
use Rattle.sqlite_schema.specs.Rules.{passes, Keeps, Obeys, Refers, references_fit}
use Rattle.sqlite_schema.specs.declared.schema.Among.TheVariants.{All}
use Rattle.sqlite_schema.specs.declared.schema.Column.{Column}
use Rattle.sqlite_schema.specs.declared.schema.Constraint.TheVariants.{Datatype, NotNull, Check, PrimaryKey, Unique, ForeignKey}
use Rattle.sqlite_schema.specs.declared.schema.Keys.TheVariants.{Enforced}
use Rattle.sqlite_schema.specs.declared.schema.Reference.{Reference}
use Rattle.sqlite_schema.specs.declared.schema.Table.{Table}
use Rattle.sqlite_schema.specs.declared.command.Command.TheVariants.{Update}
use Rattle.sqlite_rules.specs.declared.error.Refusal.{Refusal}
use Rattle.sqlite_rules.specs.declared.error.Refusal.TheVariants.{Violates, Mismatch, NoRowid, BadReference, TooDeep}
use Rattle.sqlite_rules.specs.declared.error.Rowids.TheVariants.{Given}
use Rattle.sqlite_rules.specs.Calls.{ids_of}
use Rattle.sqlite_rules.specs.Cast.{cast_row}
use Rattle.sqlite_rules.specs.Edit.{Applies, Edit, IsOversized, IsRefused, are_fresh, edit_of, edited, id_in, is_taken, left_by, put_all, taken_by}
use Rattle.sqlite_rules.specs.Keys.{are_unique}
use Rattle.sqlite_rules.specs.Lists.{Has}
use Rattle.sqlite_rules.proofs.EditLemmas.{turns}
use Rattle.sqlite_rules.proofs.ListLemmas.{all_from, has_filtered, has_got, some_has}
use Rattle.sqlite_rules.proofs.PlaceLemmas.{Tied, tied_same}
use Rattle.sqlite_rules.proofs.RuleLemmas.{unique_kept}
use Rattle.sqlite_rules.proofs.TableLemmas.{put_has}
use Rattle.sqlite.specs.Does.{Tally, Does}
use Rattle.sqlite.specs.Effect.{Database}
use Rattle.sqlite.specs.Rows.{Queried, Edited, Written}
use Rattle.sqlite.specs.State.{State, mode_of, Writes}
use Rattle.sqlite.specs.declared.error.Error.{Error}
use Rattle.sqlite.proofs.Callers.{one_step}
use Rattle.part_store.specs.Tables.{keyed, store_schema}
use Rattle.part_store.specs.Changes.{KeepsOthers}
use Rattle.part_store.proofs.Deleting.{tree_set, tree_unchanged, trees_apart}
use Rattle.part_store.proofs.Faults.{IsAnswered}
use Rattle.part_store.proofs.Meaning.{alone}
use Rattle.part_store.proofs.Rows.{answer_one, shown}
use Rattle.part_store.proofs.Stopped.{at_once, err_not_ok, stops_in, edit_stops}
use Rattle.part_store.proofs.Writes.{equal_is, left_of, no_works, passing, rows_answer, same_value, went}

module _ (at tree : ℕ) (name : List ℕ) (columns : List Column) (key : List ℕ) (references : List Reference)
    (there : slice_get store_schema.tables at ≡ Some (record (keyed name columns key references) { tree = tree })) where
  abbrev table : Table
  table = record (keyed name columns key references) { tree = tree }

  module _ (db : Trees) (params : Row) (tests shows : List Term) where
    abbrev pub test : Row → Bool
    test = passing at tree name columns key references there db params tests shows

    abbrev query : Query
    query = rows_answer at tree name columns key references there db params tests shows

    abbrev change : List Row → Edit
    change rows = edit_of db (table) (ids_of rows) Given 1 rows

    abbrev rest : List Row
    rest = filter (λ r. not (test r)) (db tree)

    -- what a row becomes
    abbrev pub becomes : Row → Row
    becomes r = cast_row (table) (drop 1 (shown tree tests (col 1 0 ∷ shows) [] db params r))

    -- one row passes
    module _ (one : Row) (only : filter test (db tree) ≡ one ∷ []) (up : IsTable (db tree)) (keyed_in : AllByRecursion (λ r. IsTrue (is_int (rowid r))) (db tree))
        (rows : List Row) (sure : IsAnswer query (overlay db []) params rows) where
      left : left_by db (change rows) ≡ rest
      left = left_of at tree name columns key references there db params tests shows rows sure up keyed_in

      news : (change rows).news ≡ becomes one ∷ []
      news = ap (λ l. (change l).news) (answer_one tree tests (col 1 0 ∷ shows) [] db params rows one sure only)

      pub put_next : (next : Trees) → Applies store_schema Enforced db (change rows) next
          → (is_taken rest (becomes one) ≡ false) × (next tree ≡ put_all rest (becomes one ∷ [])) × KeepsOthers tree db next
      put_next next applied =
          let fresh : are_fresh rest (becomes one ∷ []) ≡ true = sym (ap₂ are_fresh left news) ∙ applied.fresh in
          (not-true _ (and_parts _ _ fresh).0, applied.rows ∙ ap₂ put_all left news, applied.tables)

      one_there : Has (db tree) one × (test one ≡ true)
      one_there = has_filtered test (db tree) one (subst (λ l. Has l one) (sym only) (inl refl))

      -- it keeps its rowid, which no other row has
      free : rowid (becomes one) ≡ rowid one → is_taken rest (becomes one) ≡ false
      free same = false_from_ne_true _ (λ taken.
          let r = some_has _ rest taken in
          let kept = has_filtered (λ r. not (test r)) (db tree) r.0 r.1 in
          let tie : Tied r.0 one = subst (λ v. value_cmp (rowid r.0) v ≡ Equal) same (equal_is _ r.2) in
          let is = tied_same (db tree) r.0 one up kept.0 one_there.0 tie in
          true≢false (sym kept.1 ∙ ap (λ x. not (test x)) is ∙ ap not one_there.1))

      module _ (obeys : Obeys store_schema db) (fit : (adds removes : Bool) → references_fit store_schema (table) adds removes ≡ true) (same : rowid (becomes one) ≡ rowid one)
          (number : is_int (rowid (becomes one)) ≡ true) (typed : passes Datatype store_schema db (table) (becomes one) ≡ true) (present : passes NotNull store_schema db (table) (becomes one) ≡ true)
          (unique : (next : Trees) → ((x : Row) → Has (next tree) x → (x ≡ becomes one) ⊎ Has rest x) → are_unique store_schema.indexes next (table) (becomes one ∷ []) ≡ true) where
        passed : (p : Row → Bool) → p (becomes one) ≡ true → list_all p (change rows).news ≡ false → ⊥
        passed p holds fails = true≢false (sym (ap (list_all p) news ∙ ap (λ b. b && true) holds) ∙ fails)

        fresh : are_fresh (left_by db (change rows)) (change rows).news ≡ true
        fresh = ap₂ are_fresh left news ∙ ap (λ b. not b && true) (free same)

        keeps_unique : Keeps Unique store_schema (with_tree db tree (edited db (change rows)))
        keeps_unique =
            let after = edited db (change rows) in
            let next = with_tree db tree after in
            let is = tree_set db tree after in
            let turned = turns store_schema db next (change rows) trees_apart (has_got store_schema.tables at (table) there) up fresh is
            (all_from (λ t. t.tree ≢ tree → next t.tree ≡ db t.tree) store_schema.tables (λ t known apart. tree_unchanged db tree after t.tree apart)) in
            let put : after ≡ put_all rest (becomes one ∷ []) = ap₂ put_all left news in
            unique_kept store_schema db next (table) (left_by db (change rows)) (taken_by db (change rows)) (change rows).news turned
            (ap (are_unique store_schema.indexes next (table)) news ∙ unique next (λ x h. put_has (becomes one) rest x (subst (λ l. Has l x) (is ∙ put) h))) (obeys.rules Unique)

        refused : (why : Refusal) → IsRefused store_schema Enforced db (change rows) why → fits_i64 (id_in (rowid (becomes one))) ≡ false
        refused (Violates Datatype) h = absurd (passed (passes Datatype store_schema db (table)) typed h)
        refused (Violates NotNull) h = absurd (passed (passes NotNull store_schema db (table)) present h)
        refused (Violates Check) h = absurd (passed (passes Check store_schema db (table)) refl h)
        refused (Violates PrimaryKey) h = absurd (true≢false (sym fresh ∙ h))
        refused (Violates Unique) h = absurd (h keeps_unique)
        refused (Violates ForeignKey) h = absurd h
        refused Mismatch h = absurd (passed (λ r. is_int (rowid r)) number h)
        refused NoRowid h = elim (and_cases _ _ (sym (ap (list_all (λ r. fits_i64 (id_in (rowid r)))) news) ∙ h)) [ inl none ↦ none | inr fails ↦ absurd (true≢false fails) ]
        refused BadReference h = absurd (true≢false (sym (fit _ _) ∙ h))
        refused TooDeep h = absurd h

        -- why the edit stops
        pub edit_refused : (stop : Option Error) → Edited store_schema Enforced db (change rows) (Err stop) → (fits_i64 (id_in (rowid (becomes one))) ≡ false) ⊎ IsOversized store_schema (table) (becomes one)
        edit_refused stop h = elim (edit_stops db (change rows) h.0 h.1) [
          | inl refuses ↦ inl (refused refuses.0 refuses.1)
          | inr (row, has, big) ↦ elim (subst (λ l. Has l row) news has) [ inl is ↦ inr (subst (IsOversized store_schema (table)) is big) | inr none ↦ absurd none ]
        ]

    queried : (limit : Option ℕ) (answers : IsAnswered query params) (stop : Option Error) → Queried limit (record { schema = store_schema; trees = db }) (alone query) params (Err stop) → IsSome limit
    queried limit answers None h = absurd h
    queried limit answers (Some e) h = answers limit (record { schema = store_schema; trees = db }) e refl h

    -- a limit on steps stops an UPDATE, or its edit
    pub update_limited : (limit : Option ℕ) (text : List ℕ) (Why : Type 0) → IsAnswered query params
        → ((rows : List Row) (stop : Option Error) → IsAnswer query (overlay db []) params rows → Edited store_schema Enforced db (change rows) (Err stop) → Why)
        → ((rows : List Row) (next : Trees) → Applies store_schema Enforced db (change rows) next → Refers All store_schema next)
        → (stop : Option Error) → Does limit at_once params (record { schema = store_schema; trees = db }) text None (Update at (alone query)) (Err stop) → IsSome limit ⊎ Why
    update_limited limit text Why answers why keeps stop does =
        elim (stops_in (rw there at does)) [
          | inl early ↦ elim (stops_in early) [
            | inl asks ↦ inl (queried limit answers stop asks)
            | inr answer ↦ elim (stops_in answer.2) [
              | inl edits ↦ inr (why answer.0 stop (answer.1.answer Null) edits)
              | inr done ↦ absurd (err_not_ok done.2)
            ]
          ]
          | inr written ↦
              let answer = went written.1 in
              let rows = answer.0 in
              let edit = change rows in
              let edits = went answer.2 in
              let applied = one_step store_schema Enforced db edits.0 edit (no_works tree (taken_by db edit) edit.news) edits.1 in
              let whole : written.0.trees ≡ edits.0 = ap (λ (it : Written). it.trees) (same_value edits.2) in
              elim (stops_in written.2) [
                | inl tested ↦ absurd (tested.0 (subst (Refers All store_schema) (sym whole) (keeps rows edits.0 applied)))
                | inr sure ↦ elim (stops_in sure.2) [ inl shows ↦ absurd (err_not_ok shows) | inr ends ↦ absurd (err_not_ok ends.2) ]
              ]
        ]

  -- what an UPDATE that is done leaves
  module _ (old new : State) (params : Row) (text : List ℕ) (count : ℕ) (has : old.now.schema ≡ store_schema) (tests shows : List Term) where
    pub updated : Writes old new None (Update at (alone (query old.now.trees params tests shows))) text params count
        → (new.now.schema ≡ store_schema) × ((one : Row) → filter (test old.now.trees params tests shows) (old.now.trees tree) ≡ one ∷ [] → IsTable (old.now.trees tree)
        → AllByRecursion (λ r. IsTrue (is_int (rowid r))) (old.now.trees tree)
        → (is_taken (rest old.now.trees params tests shows) (becomes old.now.trees params tests shows one) ≡ false)
        × (new.now.trees tree ≡ put_all (rest old.now.trees params tests shows) (becomes old.now.trees params tests shows one ∷ [])) × KeepsOthers tree old.now.trees new.now.trees)
    updated w =
        let db = old.now.trees in
        let done = went (rw there at (subst (λ s. Does old.step_limit (mode_of old) params (record old.now { schema = s }) text None (Update at (alone (query db params tests shows))) (Ok (w.tally, new.now))) has w.changed)) in
        let now = ap (λ (p : Tally × Database). p.1) (same_value (went (went done.2).2).2) in
        let answer = went done.1 in
        let rows = answer.0 in
        let written = went answer.2 in
        let trees : done.0.trees ≡ written.0 = ap (λ (it : Written). it.trees) (same_value written.2) in
        let edit = change db params tests shows rows in
        let applied = one_step store_schema Enforced db written.0 edit (no_works tree (taken_by db edit) edit.news) written.1 in
        let all : new.now.trees ≡ written.0 = ap (λ (d : Database). d.trees) now ∙ trees in (
          ap (λ (d : Database). d.schema) now,
          λ one only up keyed_in.
              let put = put_next db params tests shows one only up keyed_in rows (answer.1.answer Null) written.0 applied in
              (put.0, ap (λ (t : Trees). t tree) all ∙ put.1, subst (KeepsOthers tree db) (sym all) put.2),
        )
