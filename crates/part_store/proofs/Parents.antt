-- Each row of an entry has its content.
use Rattle.std.proofs.Common.{◌≡◌, inl, inr, ℕ, Bool, true, false, List, [], ◌∷◌, refl, sym, ◌∙◌}
use Rattle.std.proofs.lemmas.Bool.{true≢false, cases_Bool, and_parts, or_left, or_right, false_from_ne_true}
use Rattle.sqlite_value.specs.declared.value.Value.TheVariants.{Blob}
use Rattle.sqlite_value.specs.Keys.{first_key, plain}
use Rattle.sqlite_sql.specs.Ops.{binary}
use Rattle.sqlite_tied.specs.Compute.{everything}
use Rattle.sqlite_value.specs.Order.{Row}
use Rattle.sqlite_trees.specs.Tree.{Trees}
use Rattle.sqlite_schema.specs.declared.schema.Among.TheVariants.{All}
use Rattle.sqlite_schema.specs.declared.schema.Constraint.TheVariants.{ForeignKey}
use Rattle.sqlite_schema.specs.Rules.{agree, has_null, has_parent, Obeys, Refers}
use Rattle.sqlite_rules.specs.Lists.{Has}
use Rattle.sqlite_rules.proofs.ListLemmas.{all_has, all_from, some_has, some_from}
use Rattle.sqlite_rules.proofs.KeyLemmas.{agree_back, agree_chain, agree_whole}
use Rattle.part_store.specs.Tables.{entry_reference, store_schema, users_tree, contents_tree, entries_tree, equals}

-- the row's digest is that of a content
abbrev pub HasParent : Trees → Row → Type 0
HasParent db r = has_parent store_schema.tables db r entry_reference ≡ true

pub all_refer : (db : Trees) → ((r : Row) → Has (db entries_tree) r → HasParent db r) → Refers All store_schema db
all_refer db each = (all_from _ (db users_tree) (λ r h. refl), (all_from _ (db contents_tree) (λ r h. refl), (all_from _ (db entries_tree) (λ r h. rw (each r h)), tt)))

pub refers : (db : Trees) → Obeys store_schema db → (r : Row) → Has (db entries_tree) r → HasParent db r
refers db obeys r h = (and_parts _ _ (all_has _ (db entries_tree) r (obeys.rules ForeignKey).1.1.0 h)).0

-- the content has the row's digest
abbrev pub is_parent : Row → Row → Bool
is_parent p r = agree plain (1 ∷ []) p (7 ∷ []) r

pub parent_stays : (db next : Trees) (r : Row) → ((p : Row) → Has (db contents_tree) p → is_parent p r ≡ true → Has (next contents_tree) p) → HasParent db r → HasParent next r
unfolding everything
parent_stays db next r stays h = elim (cases_Bool (has_null (7 ∷ []) r)) [
  | inl null ↦ or_left _ _ null
  | inr full ↦
      let p = some_has (λ p. is_parent p r) (db contents_tree) (rw full at h) in
      or_right _ _ (some_from (λ p. is_parent p r) (next contents_tree) p.0 (stays p.0 p.1 p.2) p.2)
]

-- a content that a row names has another digest than one that the row doesn't name
pub other_content : (digest : List ℕ) (p r : Row) → is_parent p r ≡ true → equals 7 (Blob digest) r ≡ false → equals 1 (Blob digest) p ≡ false
unfolding binary first_key
other_content digest p r parent none = false_from_ne_true _ (λ same.
    let back = agree_back plain (1 ∷ []) (7 ∷ []) p r parent in
    let on : agree plain (1 ∷ []) p (0 ∷ []) (Blob digest ∷ []) ≡ true = rw same in
    let chain = agree_chain plain (7 ∷ []) (1 ∷ []) (0 ∷ []) r p (Blob digest ∷ []) back on in
    true≢false (sym (and_parts _ _ chain).0 ∙ none))

-- a row that names the digest has no parent where no content has it
pub orphan : (db : Trees) (digest : List ℕ) (r : Row) → ((p : Row) → Has (db contents_tree) p → equals 1 (Blob digest) p ≡ false) → equals 7 (Blob digest) r ≡ true → HasParent db r → ⊥
unfolding everything binary first_key
orphan db digest r gone names h =
    let on : agree plain (7 ∷ []) r (0 ∷ []) (Blob digest ∷ []) ≡ true = rw names in
    let full = agree_whole plain (7 ∷ []) (0 ∷ []) r (Blob digest ∷ []) on in
    let p = some_has (λ p. is_parent p r) (db contents_tree) (rw full at h) in
    let chain = agree_chain plain (1 ∷ []) (7 ∷ []) (0 ∷ []) p.0 r (Blob digest ∷ []) p.2 on in
    true≢false (sym (and_parts _ _ chain).0 ∙ gone p.0 p.1)
