-- Why an INSERT is refused: a new row under a free key keeps the rules of the three tables.
use Rattle.std.proofs.Common.{◌≡◌, ◌≢◌, ◌⊎◌, inl, inr, ℕ, ◌/◌, ℤ, Bool, true, false, not, ◌&&◌, List, [], ◌∷◌, drop, length, append-nil, Option, Some, None, Err, refl, sym, ap, subst, ◌∙◌, slice_get, IsSome, IsTrue}
use Rattle.std.specs.List.{AllByRecursion, list_all}
use Rattle.std.specs.Ordering.{is_ne}
use Rattle.std.proofs.lemmas.Bool.{true≢false, and_cases, and_parts, false_from_ne_true}
use Rattle.std.proofs.lemmas.Cmp.{tied_itself}
use Rattle.sqlite_value.specs.declared.keys.Order.{Order}
use Rattle.sqlite_value.specs.declared.value.Value.TheVariants.{Null, Int}
use Rattle.sqlite_value.specs.Order.{Row}
use Rattle.sqlite_value.proofs.OrderLemmas.{value_cmp_total}
use Rattle.sqlite_trees.specs.Tree.{Trees, rowid, IsTable, with_tree}
use Rattle.sqlite_trees.specs.View.{is_int}
use Rattle.sqlite_sql.specs.Ops.{binary, fits_i64}
use Rattle.sqlite_sql.specs.Term.{Term}
use Rattle.sqlite_schema.specs.Rules.{agree, clashes, differ, passes, Keeps, Obeys, Refers, references_fit}
use Rattle.sqlite_schema.specs.declared.schema.Among.TheVariants.{All}
use Rattle.sqlite_schema.specs.declared.schema.Column.{Column}
use Rattle.sqlite_schema.specs.declared.schema.Constraint.TheVariants.{Datatype, NotNull, Check, PrimaryKey, Unique, ForeignKey}
use Rattle.sqlite_schema.specs.declared.schema.Keys.TheVariants.{Enforced}
use Rattle.sqlite_schema.specs.declared.schema.Reference.{Reference}
use Rattle.sqlite_schema.specs.declared.schema.Table.{Table}
use Rattle.sqlite_schema.specs.declared.command.Command.TheVariants.{Insert}
use Rattle.sqlite_schema.specs.declared.command.Source.TheVariants.{Values}
use Rattle.sqlite_rules.specs.declared.error.Refusal.{Refusal}
use Rattle.sqlite_rules.specs.declared.error.Refusal.TheVariants.{Violates, Mismatch, NoRowid, BadReference, TooDeep}
use Rattle.sqlite_rules.specs.declared.error.Rowids.TheVariants.{Chosen}
use Rattle.sqlite_rules.specs.Cast.{cast_row}
use Rattle.sqlite_rules.specs.Edit.{Applies, Edit, IsOversized, IsRefused, are_fresh, edit_of, edited, id_in, left_by, next_rowid, put_all, taken_by}
use Rattle.sqlite_rules.specs.Keys.{are_unique}
use Rattle.sqlite_rules.specs.Lists.{Has}
use Rattle.sqlite_rules.proofs.EditLemmas.{turns}
use Rattle.sqlite_rules.proofs.ListLemmas.{all_from, has_got, some_has}
use Rattle.sqlite_rules.proofs.PlaceLemmas.{next_is_free}
use Rattle.sqlite_rules.proofs.RuleLemmas.{unique_kept}
use Rattle.sqlite_rules.proofs.TableLemmas.{put_has}
use Rattle.sqlite.specs.Does.{Does}
use Rattle.sqlite.specs.Effect.{Database, IsSource, RefusesSource, value_rows}
use Rattle.sqlite.specs.Rows.{Edited, Sourced, Written}
use Rattle.sqlite.specs.declared.error.Error.{Error}
use Rattle.sqlite.proofs.Callers.{one_step}
use Rattle.part_store.specs.Causes.{HasNoRoom}
use Rattle.part_store.specs.Tables.{keyed, store_schema}
use Rattle.part_store.specs.Changes.{new_row}
use Rattle.part_store.proofs.Equals.{truth_of}
use Rattle.part_store.proofs.Deleting.{tree_set, tree_unchanged, trees_apart}
use Rattle.part_store.proofs.Stopped.{at_once, err_not_ok, stops_in, edit_stops}
use Rattle.part_store.proofs.Writes.{no_works, put_is, same_value, went}

differ_itself : (id : ℤ) → differ (Int id) (Int id) ≡ false
unfolding binary
differ_itself id = truth_of _ ∙ ap is_ne (tied_itself value_cmp_total (Int id))

-- a new row clashes with none where no other has its key
pub clash_free : (o : Order) (places : List ℕ) (old next : List Row) (new : Row) (id : ℤ) → rowid new ≡ Int id → ((x : Row) → Has next x → (x ≡ new) ⊎ Has old x)
    → ((r : Row) → Has old r → agree o places r places new ≡ false) → clashes o places next new ≡ false
clash_free o places old next new id key split apart = false_from_ne_true _ (λ clash.
    let other = some_has (λ other. agree o places other places new && differ (rowid other) (rowid new)) next clash in
    let parts = and_parts _ _ other.2 in
    elim (split other.0 other.1) [
      | inl same ↦ true≢false (sym parts.1 ∙ ap (λ r. differ (rowid r) (rowid new)) same ∙ ap (λ v. differ v v) key ∙ differ_itself id)
      | inr was ↦ true≢false (sym parts.0 ∙ apart other.0 was)
    ])

module _ (at tree : ℕ) (name : List ℕ) (columns : List Column) (key : List ℕ) (references : List Reference)
    (there : slice_get store_schema.tables at ≡ Some (record (keyed name columns key references) { tree = tree })) where
  abbrev table : Table
  table = record (keyed name columns key references) { tree = tree }

  module _ (limit : Option ℕ) (params : Row) (db : Trees) (text : List ℕ) (terms : List Term) (width : ℕ) (source values : Row) (one : value_rows params width (length terms / width) terms ≡ source ∷ [])
      (casts : cast_row (table) (drop 0 source) ≡ Null ∷ values) (accepts : (e : Error) → RefusesSource limit (record { schema = store_schema; trees = db }) params (Values terms width) e → IsSome limit) (obeys : Obeys store_schema db) (rises : IsTable (db tree))
      (keyed_in : AllByRecursion (λ r. IsTrue (is_int (rowid r))) (db tree)) (fit : (b : Bool) → references_fit store_schema (table) b false ≡ true)
      (typed : passes Datatype store_schema db (table) (new_row (db tree) values) ≡ true) (present : passes NotNull store_schema db (table) (new_row (db tree) values) ≡ true)
      (unique : (next : Trees) → ((x : Row) → Has (next tree) x → (x ≡ new_row (db tree) values) ⊎ Has (db tree) x) → are_unique store_schema.indexes next (table) (new_row (db tree) values ∷ []) ≡ true) where
    abbrev here : Database
    here = record { schema = store_schema; trees = db }

    abbrev new : Row
    new = new_row (db tree) values

    abbrev insertion : List Row → Edit
    insertion rows = edit_of db (table) [] Chosen 0 rows

    module _ (rows : List Row) (news : (insertion rows).news ≡ new ∷ []) where
      passed : (p : Row → Bool) → p new ≡ true → list_all p (insertion rows).news ≡ false → ⊥
      passed p holds fails = true≢false (sym (ap (list_all p) news ∙ ap (λ b. b && true) holds) ∙ fails)

      free : are_fresh (db tree) (insertion rows).news ≡ true
      free = ap (are_fresh (db tree)) news ∙ ap (λ b. not b && true) (next_is_free Chosen (db tree) values rises keyed_in)

      keeps_unique : Keeps Unique store_schema (with_tree db tree (edited db (insertion rows)))
      keeps_unique =
          let after = edited db (insertion rows) in
          let next = with_tree db tree after in
          let is = tree_set db tree after in
          let turned = turns store_schema db next (insertion rows) trees_apart (has_got store_schema.tables at (table) there) rises free is
          (all_from (λ t. t.tree ≢ tree → next t.tree ≡ db t.tree) store_schema.tables (λ t known apart. tree_unchanged db tree after t.tree apart)) in
          let put : after ≡ put_all (db tree) (new ∷ []) = ap (put_all (db tree)) news in
          unique_kept store_schema db next (table) (left_by db (insertion rows)) (taken_by db (insertion rows)) (insertion rows).news turned
          (ap (are_unique store_schema.indexes next (table)) news ∙ unique next (λ x h. put_has new (db tree) x (subst (λ l. Has l x) (is ∙ put) h))) (obeys.rules Unique)

      refused : (why : Refusal) → IsRefused store_schema Enforced db (insertion rows) why → fits_i64 (next_rowid (db tree)) ≡ false
      refused (Violates Datatype) h = absurd (passed (passes Datatype store_schema db (table)) typed h)
      refused (Violates NotNull) h = absurd (passed (passes NotNull store_schema db (table)) present h)
      refused (Violates Check) h = absurd (passed (passes Check store_schema db (table)) refl h)
      refused (Violates PrimaryKey) h = absurd (true≢false (sym free ∙ h))
      refused (Violates Unique) h = absurd (h keeps_unique)
      refused (Violates ForeignKey) h = absurd h
      refused Mismatch h = absurd (passed (λ r. is_int (rowid r)) refl h)
      refused NoRowid h = elim (and_cases _ _ (sym (ap (list_all (λ r. fits_i64 (id_in (rowid r)))) news) ∙ h)) [ inl none ↦ none | inr fails ↦ absurd (true≢false fails) ]
      refused BadReference h = absurd (true≢false (sym (fit _) ∙ h))
      refused TooDeep h = absurd h

      edit_refused : (stop : Option Error) → Edited store_schema Enforced db (insertion rows) (Err stop) → HasNoRoom (table) values db
      edit_refused stop h = elim (edit_stops db (insertion rows) h.0 h.1) [
        | inl refuses ↦ inl (refused refuses.0 refuses.1)
        | inr (row, has, big) ↦ elim (subst (λ l. Has l row) news has) [ inl is ↦ inr (subst (IsOversized store_schema (table)) is big) | inr none ↦ absurd none ]
      ]

    sourced : (stop : Option Error) (given : Row) → given ≡ params → Sourced limit here given (Values terms width) (Err stop) → IsSome limit
    sourced None given same h = absurd h
    sourced (Some e) given same h = accepts e (subst (λ p. RefusesSource limit here p (Values terms width) e) same h)

    -- a limit on steps, or want of room
    pub insert_limited : ((rows : List Row) (next : Trees) → (insertion rows).news ≡ new ∷ [] → Applies store_schema Enforced db (insertion rows) next → Refers All store_schema next)
        → (stop : Option Error) → Does limit at_once params here text None (Insert at (Values terms width)) (Err stop) → IsSome limit ⊎ HasNoRoom (table) values db
    insert_limited keeps stop does =
        elim (stops_in (rw there at does)) [
          | inl early ↦ elim (stops_in early) [
            | inl asks ↦ inl (sourced stop _ (append-nil params) asks)
            | inr given ↦
                let news = put_is at tree name columns key references there db given.0 source values ((subst (λ p. IsSource here p (Values terms width) given.0) (append-nil params) given.1).1 ∙ one) casts in
                elim (stops_in given.2) [
                  | inl counts ↦ absurd (err_not_ok counts)
                  | inr on ↦ elim (stops_in on.2) [
                    | inl edits ↦ inr (edit_refused given.0 news stop edits)
                    | inr mid ↦ elim (stops_in mid.2) [ inl counts ↦ absurd (err_not_ok counts) | inr ends ↦ absurd (err_not_ok ends.2) ]
                  ]
                ]
          ]
          | inr written ↦
              let given = went written.1 in
              let news = put_is at tree name columns key references there db given.0 source values ((subst (λ p. IsSource here p (Values terms width) given.0) (append-nil params) given.1).1 ∙ one) casts in
              let edits = went (went given.2).2 in
              let counted = went edits.2 in
              let edit = insertion given.0 in
              let applied = one_step store_schema Enforced db edits.0 edit (no_works tree (taken_by db edit) edit.news) edits.1 in
              let whole : written.0.trees ≡ edits.0 = ap (λ (it : Written). it.trees) (same_value counted.2) ∙ same_value counted.1 in
              elim (stops_in written.2) [
                | inl tested ↦ absurd (tested.0 (subst (Refers All store_schema) (sym whole) (keeps given.0 edits.0 news applied)))
                | inr sure ↦ elim (stops_in sure.2) [ inl shows ↦ absurd (err_not_ok shows) | inr ends ↦ absurd (err_not_ok ends.2) ]
              ]
        ]
