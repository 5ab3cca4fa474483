-- Why a DELETE is refused: what is left keeps the rules of the three tables.
use Rattle.std.proofs.Common.{◌≡◌, ◌≢◌, ◌⊎◌, inl, inr, ℕ, ◌&&◌, pos, Bool, true, false, not, if◌then◌else◌, List, [], ◌∷◌, Option, Some, None, Ok, Err, refl, sym, ap, subst, ◌∙◌, slice_get, IfSome, IsSome, codes, arith}
use Rattle.std.specs.List.{list_any}
use Rattle.std.proofs.lemmas.Bool.{cases_Bool, true≢false, eq-eqb, ne_eqb, and_right, false_from_ne_true, not-true, not_from_false}
use Rattle.sqlite_value.specs.declared.value.Value.TheVariants.{Null, Int, Text, Blob}
use Rattle.sqlite_value.specs.Order.{Row}
use Rattle.sqlite_trees.specs.Tree.{Trees, IsAscending, with_tree}
use Rattle.sqlite_sql.specs.Query.{Query, IsAnswer}
use Rattle.sqlite_sql.specs.Program.{overlay}
use Rattle.sqlite_schema.specs.Rules.{guards, Keeps, Obeys, Refers, references_fit}
use Rattle.sqlite_schema.specs.declared.schema.Among.TheVariants.{All}
use Rattle.sqlite_schema.specs.declared.schema.Constraint.TheVariants.{Unique, ForeignKey}
use Rattle.sqlite_schema.specs.declared.schema.Keys.TheVariants.{Enforced}
use Rattle.sqlite_schema.specs.declared.schema.Table.{Table}
use Rattle.sqlite_schema.specs.declared.command.Command.TheVariants.{Delete}
use Rattle.sqlite_schema.specs.declared.program.Program.{Program}
use Rattle.sqlite_rules.specs.declared.error.Refusal.{Refusal}
use Rattle.sqlite_rules.specs.declared.error.Refusal.TheVariants.{Violates, BadReference, TooDeep}
use Rattle.sqlite_rules.specs.declared.error.Rowids.TheVariants.{Given}
use Rattle.sqlite_rules.specs.Calls.{ids_of}
use Rattle.sqlite_rules.specs.Edit.{Applies, Edit, IsRefused, edit_of, edited, left_by, taken_by}
use Rattle.sqlite_rules.specs.Lists.{Has}
use Rattle.sqlite_rules.proofs.ListLemmas.{has_filtered, has_got, has_kept, some_from, some_has, test_from}
use Rattle.sqlite_rules.proofs.RuleLemmas.{Turns, unique_kept}
use Rattle.sqlite_rules.proofs.TableLemmas.{without_all_has}
use Rattle.sqlite_tied.specs.Compute.{everything}
use Rattle.sqlite.specs.Does.{Does}
use Rattle.sqlite.specs.Effect.{Database, IsDatabase, RefusesQuery}
use Rattle.sqlite.specs.Listing.{understood}
use Rattle.sqlite.specs.Rows.{Queried, Edited, Written}
use Rattle.sqlite.specs.State.{State, mode_of, ExecutesInside}
use Rattle.sqlite.specs.declared.error.Error.{Error}
use Rattle.sqlite.proofs.Callers.{one_step}
use Rattle.part_store.specs.Refusals.{refusal_of, HasFailed}
use Rattle.part_store.specs.Causes.{still_named, IsWritable}
use Rattle.part_store.specs.Changes.{IsTidied, IsTaken, IsTableIn}
use Rattle.part_store.specs.Tables.{store_schema, users_table, contents_table, entries_table, content_columns, contents_tree, entries_tree, equals}
use Rattle.part_store.specs.Statements.{drop_user_text, drop_content_text, drop_entry_text}
use Rattle.part_store.specs.declared.error.StoreError.TheVariants.{Database as refused}
use Rattle.part_store.proofs.Faults.{IsAsked, IsAnswered}
use Rattle.part_store.proofs.Asked.{over}
use Rattle.part_store.proofs.ContentRows.{content_taken}
use Rattle.part_store.proofs.Runs.{and_true, taken_as}
use Rattle.part_store.proofs.Meaning.{alone, is_given, drop_user_query, drop_user_is, drop_content_query, drop_content_is, drop_entry_query, drop_entry_is}
use Rattle.part_store.proofs.Parents.{all_refer, refers, parent_stays, orphan, other_content}
use Rattle.part_store.proofs.Stopped.{at_once, err_not_ok, stops_in, edit_stops, delete_writes, named_is_no_failure, named_leaves, stopped, IsStoreFailure, Stops}
use Rattle.part_store.proofs.Writes.{no_works, same_value, taken_next, went}

pub tree_set : (db : Trees) (t : ℕ) (rows : List Row) → with_tree db t rows t ≡ rows
tree_set db t rows = ap (λ b. if b then rows else db t) (eq-eqb t t refl)

pub tree_unchanged : (db : Trees) (t : ℕ) (rows : List Row) (u : ℕ) → u ≢ t → with_tree db t rows u ≡ db u
tree_unchanged db t rows u apart = ap (λ b. if b then rows else db u) (ne_eqb u t apart)

pub trees_apart : IsAscending (λ a b. a.tree ≡ b.tree → ⊥) store_schema.tables
trees_apart = ((λ h. omega (arith, h), (λ h. omega (arith, h), tt)), ((λ h. omega (arith, h), tt), (tt, tt)))

module _ (limit : Option ℕ) (params : Row) (db : Trees) (text : List ℕ) (at : ℕ) (table : Table) (there : slice_get store_schema.tables at ≡ Some table) (query : Query) where
  abbrev here : Database
  here = record { schema = store_schema; trees = db }

  abbrev gone : List Row → Edit
  gone rows = edit_of db table (ids_of rows) Given 0 []

  -- fewer rows of one table
  turns : (rows : List Row) → Turns store_schema db (with_tree db table.tree (edited db (gone rows))) table (left_by db (gone rows)) (db table.tree) []
  turns rows =
      let is = tree_set db table.tree (edited db (gone rows)) in
      record {
        apart = trees_apart;
        listed = has_got store_schema.tables at table there;
        others = λ t known apart. tree_unchanged db table.tree (edited db (gone rows)) t.tree apart;
        from = λ r h. inr (subst (λ l. Has l r) is h);
        stays = λ r h. subst (λ l. Has l r) (sym is) h;
        added = λ r h. absurd h;
        was = λ r h. without_all_has (ids_of rows) (db table.tree) r h;
        split = λ r h. inr h;
      }

  unique_left : (rows : List Row) → Obeys store_schema db → Keeps Unique store_schema (with_tree db table.tree (edited db (gone rows)))
  unique_left rows obeys = unique_kept store_schema db _ table _ _ [] (turns rows) (test_from (λ i. not (guards i table && false)) store_schema.indexes (λ i known. not_from_false _ (and_right (guards i table) false refl))) (obeys.rules Unique)

  module _ (obeys : Obeys store_schema db) (fit : (b : Bool) → references_fit store_schema table false b ≡ true) where
    never : (rows : List Row) (why : Refusal) → IsRefused store_schema Enforced db (gone rows) why → ⊥
    never rows (Violates Unique) h = h (unique_left rows obeys)
    never rows (Violates ForeignKey) h = h
    never rows BadReference h = true≢false (sym (fit _) ∙ h)
    never rows TooDeep h = h
    never rows _ h = true≢false h

    never_stops : (rows : List Row) (stop : Option Error) → Edited store_schema Enforced db (gone rows) (Err stop) → ⊥
    never_stops rows stop h = elim (edit_stops db (gone rows) h.0 h.1) [ inl refuses ↦ never rows refuses.0 refuses.1 | inr big ↦ big.1 ]

    queried : (answers : IsAnswered query params) (stop : Option Error) → Queried limit here (alone query) params (Err stop) → IsSome limit
    queried answers None h = absurd h
    queried answers (Some e) h = answers limit here e refl h

    -- what would be left has a row without its parent
    abbrev pub LeavesOrphan : Option Error → Type 0
    LeavesOrphan stop = (stop ≡ Some still_named) × (rows : List Row) × (next : Trees) × IsAnswer query (overlay db []) params rows
        × Applies store_schema Enforced db (gone rows) next × ¬ Refers All store_schema next

    -- its query stops it, or a row that would lose its parent
    pub delete_stopped : (stop : Option Error) → Does limit at_once params here text None (Delete at (alone query)) (Err stop) → Queried limit here (alone query) params (Err stop) ⊎ LeavesOrphan stop
    delete_stopped stop does =
        elim (stops_in (rw there at does)) [
          | inl early ↦ elim (stops_in early) [
            | inl asks ↦ inl asks
            | inr answer ↦ elim (stops_in answer.2) [
              | inl edits ↦ absurd (never_stops answer.0 stop edits)
              | inr done ↦ absurd (err_not_ok done.2)
            ]
          ]
          | inr written ↦
              let answer = went written.1 in
              let rows = answer.0 in
              let edit = gone rows in
              let edits = went answer.2 in
              let applied = one_step store_schema Enforced db edits.0 edit (no_works table.tree (taken_by db edit) edit.news) edits.1 in
              let whole : written.0.trees ≡ edits.0 = ap (λ (it : Written). it.trees) (same_value edits.2) in
              elim (stops_in written.2) [
                | inl tested ↦ inr (tested.1, rows, edits.0, answer.1.answer Null, applied, λ held. tested.0 (subst (Refers All store_schema) (sym whole) held))
                | inr sure ↦ elim (stops_in sure.2) [ inl shows ↦ absurd (err_not_ok shows) | inr ends ↦ absurd (err_not_ok ends.2) ]
              ]
        ]

    -- where none would, a limit on steps alone stops it
    pub delete_limited : IsAnswered query params
        → ((rows : List Row) (next : Trees) → IsAnswer query (overlay db []) params rows → Applies store_schema Enforced db (gone rows) next → Refers All store_schema next)
        → (stop : Option Error) → Does limit at_once params here text None (Delete at (alone query)) (Err stop) → IsSome limit
    delete_limited answers keeps stop does = elim (delete_stopped stop does) [
      | inl asks ↦ queried answers stop asks
      | inr left ↦ absurd (left.5 (keeps left.1 left.2 left.3 left.4))
    ]

-- rows that are left were there
left_were : (db next : Trees) (table : Table) (rows : List Row) → Applies store_schema Enforced db (edit_of db table (ids_of rows) Given 0 []) next → (r : Row) → Has (next table.tree) r → Has (db table.tree) r
left_were db next table rows applied r h = without_all_has (ids_of rows) (db table.tree) r (subst (λ l. Has l r) applied.rows h)

users_fit : (b : Bool) → references_fit store_schema users_table false b ≡ true
unfolding everything
users_fit true = refl
users_fit false = refl

contents_fit : (b : Bool) → references_fit store_schema contents_table false b ≡ true
unfolding everything
contents_fit true = refl
contents_fit false = refl

entries_fit : (b : Bool) → references_fit store_schema entries_table false b ≡ true
unfolding everything
entries_fit true = refl
entries_fit false = refl

drop_user_asked : IsAsked (understood store_schema drop_user_text) drop_user_text 1
unfolding understood everything
drop_user_asked = (omega arith, refl)

drop_user_answered : (user : List ℕ) → IsAnswered drop_user_query (Text user ∷ [])
unfolding everything
drop_user_answered user limit db e has h = elim (over limit db drop_user_query (Text user ∷ []) e has h) [
  | inl untyped ↦ absurd (true≢false untyped.1)
  | inr (inl sum) ↦ elim sum.1 [ inl none ↦ absurd none | inr more ↦ absurd more.4 ]
  | inr (inr steps) ↦ steps.1
]

drop_content_asked : IsAsked (understood store_schema drop_content_text) drop_content_text 1
unfolding understood everything
drop_content_asked = (omega arith, refl)

drop_content_answered : (digest : List ℕ) → IsAnswered drop_content_query (Blob digest ∷ [])
unfolding everything
drop_content_answered digest limit db e has h = elim (over limit db drop_content_query (Blob digest ∷ []) e has h) [
  | inl untyped ↦ absurd (true≢false untyped.1)
  | inr (inl sum) ↦ elim sum.1 [ inl none ↦ absurd none | inr more ↦ absurd more.4 ]
  | inr (inr steps) ↦ steps.1
]

drop_entry_asked : IsAsked (understood store_schema drop_entry_text) drop_entry_text 2
unfolding understood everything
drop_entry_asked = (omega arith, refl)

drop_entry_answered : (user : List ℕ) (number : ℕ) → IsAnswered drop_entry_query (Text user ∷ Int (pos number) ∷ [])
unfolding everything
drop_entry_answered user number limit db e has h = elim (over limit db drop_entry_query (Text user ∷ Int (pos number) ∷ []) e has h) [
  | inl untyped ↦ absurd (true≢false untyped.1)
  | inr (inl sum) ↦ elim sum.1 [ inl none ↦ absurd none | inr more ↦ absurd more.4 ]
  | inr (inr steps) ↦ steps.1
]

-- a statement over the three tables
over_store : (params : Row) (old : State) (q : Query) (at : ℕ) (has : old.now.schema ≡ store_schema) (text : List ℕ) (stop : Option Error)
    → Does old.step_limit (mode_of old) params old.now text None (Delete at (alone q)) (Err stop)
    → Does old.step_limit at_once params (record { schema = store_schema; trees = old.now.trees }) text None (Delete at (alone q)) (Err stop)
over_store params old q at has text stop does = subst (λ s. Does old.step_limit at_once params (record old.now { schema = s }) text None (Delete at (alone q)) (Err stop)) has does

-- a statement that only a limit on steps stops
limited : (sql : List ℕ) (params : Row) (old new : State) (q : Query) (at : ℕ) (has : old.now.schema ≡ store_schema)
    → ((text : List ℕ) (stop : Option Error) → Does old.step_limit at_once params (record { schema = store_schema; trees = old.now.trees }) text None (Delete at (alone q)) (Err stop) → IsSome old.step_limit)
    → {e : Error} → (HasFailed old new × IsStoreFailure e) ⊎ Stops old params (Delete at (alone q)) e → HasFailed old new
limited sql params old new q at has only (inl disk) = disk.0
limited sql params old new q at has only (inr stops) = inr (inr (only stops.0 stops.1 (over_store params old q at has stops.0 stops.1 stops.3)))

pub obeyed : (s : State) (can : IsWritable s) → Obeys store_schema s.now.trees
obeyed s can = subst (λ t. Obeys t s.now.trees) can.schema can.listed.obeys

module _ (old new : State) (e : Error) (told : refusal_of e ≡ refused) (can : IsWritable old) where
  abbrev db : Trees
  db = old.now.trees

  pub user_kept : (user : List ℕ) → ExecutesInside 0 drop_user_text (Text user ∷ []) old new (Err e) → HasFailed old new
  user_kept user h =
      let params : Row = Text user ∷ [] in
      limited drop_user_text params old new drop_user_query 0 can.schema
      (λ text. delete_limited old.step_limit params db text 0 users_table refl drop_user_query (obeyed old can) users_fit (drop_user_answered user) (λ rows next sure applied.
      all_refer next (λ r h. parent_stays db next r (λ p k _. subst (λ l. Has l p) (sym (applied.tables.1.0 (λ h. omega (arith, h)))) k)
      (refers db (obeyed old can) r (subst (λ l. Has l r) (applied.tables.1.1.0 (λ h. omega (arith, h))) h)))))
      (stopped drop_user_text params old new can.schema (Delete 0 (alone drop_user_query)) drop_user_is.0 drop_user_is.1 drop_user_asked (delete_writes 0 _) e told h)

  pub entry_kept : (user : List ℕ) (number : ℕ) → ExecutesInside 0 drop_entry_text (Text user ∷ Int (pos number) ∷ []) old new (Err e) → HasFailed old new
  entry_kept user number h =
      let params : Row = Text user ∷ Int (pos number) ∷ [] in
      limited drop_entry_text params old new drop_entry_query 2 can.schema
      (λ text. delete_limited old.step_limit params db text 2 entries_table refl drop_entry_query (obeyed old can) entries_fit (drop_entry_answered user number) (λ rows next sure applied.
      all_refer next (λ r h. parent_stays db next r (λ p k _. subst (λ l. Has l p) (sym (applied.tables.1.0 (λ h. omega (arith, h)))) k)
      (refers db (obeyed old can) r (left_were db next entries_table rows applied r h)))))
      (stopped drop_entry_text params old new can.schema (Delete 2 (alone drop_entry_query)) drop_entry_is.0 drop_entry_is.1 drop_entry_asked (delete_writes 2 _) e told h)

-- no query is refused because a row is still named
never_asked : (limit : Option ℕ) (database : Database) (q : Program) (params : Row) → RefusesQuery limit database q params still_named → ⊥
never_asked limit database q params (inl h) = let same = h.0 in absurd cc
never_asked limit database q params (inr (inl h)) = let same = h.0 in absurd cc
never_asked limit database q params (inr (inr h)) = let same = h.0 in absurd cc

asked_never : (limit : Option ℕ) (database : Database) (q : Program) (params : Row) (stop : Option Error) → IfSome stop (λ x. x ≡ still_named) → Queried limit database q params (Err stop) → ⊥
asked_never limit database q params None is h = h
asked_never limit database q params (Some e) is h = never_asked limit database q params (subst (RefusesQuery limit database q params) is h)

module _ (old new : State) (digest : List ℕ) where
  abbrev given : Row
  given = Blob digest ∷ []

  abbrev rows_of : Trees
  rows_of = old.now.trees

  abbrev Stopped : Error → Type 0
  Stopped e = (HasFailed old new × IsStoreFailure e) ⊎ Stops old given (Delete 1 (alone drop_content_query)) e

  content_stopped : (e : Error) → refusal_of e ≡ refused → old.now.schema ≡ store_schema → ExecutesInside 0 drop_content_text given old new (Err e) → Stopped e
  content_stopped e told has = stopped drop_content_text given old new has (Delete 1 (alone drop_content_query)) drop_content_is.0 drop_content_is.1 drop_content_asked (delete_writes 1 _) e told

  other_refusal : (e : Error) → e ≢ still_named → IsWritable old → Stopped e → HasFailed old new
  other_refusal e other can (inl disk) = disk.0
  other_refusal e other can (inr stops) =
      let does = over_store given old drop_content_query 1 can.schema stops.0 stops.1 stops.3 in
      elim (delete_stopped old.step_limit given rows_of stops.0 1 contents_table refl drop_content_query (obeyed old can) contents_fit stops.1 does) [
        | inl asks ↦ inr (inr (queried old.step_limit given rows_of stops.0 1 contents_table refl drop_content_query (obeyed old can) contents_fit (drop_content_answered digest) stops.1 asks))
        | inr left ↦ absurd (other (sym (subst (λ s. IfSome s (λ x. x ≡ e)) left.0 stops.2)))
      ]

  -- what is told of a content that no entry names is what is told of any row
  pub content_refused : (e : Error) → refusal_of e ≡ refused → e ≢ still_named → IsWritable old → ExecutesInside 0 drop_content_text given old new (Err e) → HasFailed old new
  content_refused e told other can h = other_refusal e other can (content_stopped e told can.schema h)

  module _ (has : old.now.schema ≡ store_schema) (listed : IsDatabase old.now) (table : IsTableIn contents_tree rows_of) where
    rules : Obeys store_schema rows_of
    rules = subst (λ t. Obeys t rows_of) has listed.obeys

    abbrev IsNamed : Type 0
    IsNamed = (r : Row) × Has (rows_of entries_tree) r × (equals 7 (Blob digest) r ≡ true)

    abbrev NoneNames : Type 0
    NoneNames = (r : Row) → Has (rows_of entries_tree) r → equals 7 (Blob digest) r ≡ false

    -- where no entry names the content, each has its own still
    still_refer : NoneNames → (next : Trees) → IsTaken contents_tree (equals 1 (Blob digest)) rows_of next → Refers All store_schema next
    still_refer none next taken =
        let were : (r : Row) → Has (next entries_tree) r → Has (rows_of entries_tree) r = λ r h. subst (λ l. Has l r) (taken.others.1.1.0 (λ h. omega (arith, h))) h in
        all_refer next (λ r h. parent_stays rows_of next r
        (λ p k parent. subst (λ l. Has l p) (sym (taken.rows table.0 table.1)) (has_kept _ (rows_of contents_tree) p k (not_from_false _ (other_content digest p r parent (none r (were r h))))))
        (refers rows_of rules r (were r h)))

    content_gone : (rows : List Row) (next : Trees) → IsAnswer drop_content_query (overlay rows_of []) given rows → Applies store_schema Enforced rows_of (edit_of rows_of contents_table (ids_of rows) Given 0 []) next
        → IsTaken contents_tree (equals 1 (Blob digest)) rows_of next
    content_gone rows next sure applied =
        taken_as contents_tree _ (equals 1 (Blob digest)) rows_of next (λ r. and_true _) (taken_next 1 2 (codes "contents") content_columns (1 ∷ []) [] refl rows_of given (is_given 1 0 ∷ []) rows next sure applied)

    refused_named : Stopped still_named → NoneNames → ⊥
    refused_named (inl disk) none = named_is_no_failure disk.1
    refused_named (inr stops) none =
        let does = over_store given old drop_content_query 1 has stops.0 stops.1 stops.3 in
        elim (delete_stopped old.step_limit given rows_of stops.0 1 contents_table refl drop_content_query rules contents_fit stops.1 does) [
          | inl asks ↦ asked_never old.step_limit (record { schema = store_schema; trees = rows_of }) (alone drop_content_query) given stops.1 stops.2 asks
          | inr left ↦ left.5 (still_refer none left.2 (content_gone left.1 left.2 left.3 left.4))
        ]

    find_named : (NoneNames → ⊥) → IsNamed
    find_named some = elim (cases_Bool (list_any (equals 7 (Blob digest)) (rows_of entries_tree))) [
      | inl one ↦ some_has (equals 7 (Blob digest)) (rows_of entries_tree) one
      | inr missing ↦ absurd (some (λ r h. false_from_ne_true _ (λ is. true≢false (sym (some_from (equals 7 (Blob digest)) (rows_of entries_tree) r h is) ∙ missing))))
    ]

    -- the database refuses where an entry names the content, and nothing has changed
    pub content_named : ExecutesInside 0 drop_content_text given old new (Err still_named) → IsTidied digest old new
    content_named h =
        let same = named_leaves drop_content_text given old new h in
        let is = same.0.now_is in
        let one = find_named (refused_named (content_stopped still_named refl has h)) in
        record {
          schema = ap (λ (d : Database). d.schema) is ∙ has;
          committed = same.0.committed_is;
          inside = λ on. same.0.mode ∙ on;
          listed = subst IsDatabase (sym is);
          change = inl (one.0, one.1, one.2, ap (λ (d : Database). d.trees) is);
        }

    -- and takes it out only where none does
    pub content_tidied : (count : ℕ) → ExecutesInside 0 drop_content_text given old new (Ok count) → IsTidied digest old new
    content_tidied count h =
        let step = content_taken old new digest count h has in
        let taken = step.change in
        let after = step.listed listed in
        let obeys : Obeys store_schema new.now.trees = subst (λ t. Obeys t new.now.trees) step.schema after.obeys in
        let entries : new.now.trees entries_tree ≡ rows_of entries_tree = taken.others.1.1.0 (λ h. omega (arith, h)) in
        let out : (p : Row) → Has (new.now.trees contents_tree) p → equals 1 (Blob digest) p ≡ false =
        λ p k. not-true _ (has_filtered _ (rows_of contents_tree) p (subst (λ l. Has l p) (taken.rows table.0 table.1) k)).1 in
        let none : NoneNames = λ r k. false_from_ne_true _ (λ is. orphan new.now.trees digest r out is (refers new.now.trees obeys r (subst (λ l. Has l r) (sym entries) k))) in
        record { schema = step.schema; committed = step.committed; inside = step.inside; listed = step.listed; change = inr (none, taken) }
