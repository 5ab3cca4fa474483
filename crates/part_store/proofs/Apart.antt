-- No user has two rows where his were taken out and one was put in.
use Rattle.std.proofs.Common.{◌≡◌, inl, inr, ℕ, ℤ, true, false, not, List, ◌∷◌, filter, refl, sym, ap, subst, ◌∙◌, bytes_eq}
use Rattle.std.proofs.lemmas.Bool.{true≢false, not-true}
use Rattle.std.proofs.lemmas.Slice.Eq.{bytes_eq-Decides}
use Rattle.sqlite_value.specs.declared.value.Value.TheVariants.{Int, Text}
use Rattle.sqlite_value.specs.Order.{Row}
use Rattle.sqlite_trees.specs.Tree.{Trees}
use Rattle.sqlite_rules.specs.Lists.{Has}
use Rattle.sqlite_rules.proofs.ListLemmas.{has_filtered}
use Rattle.part_store.specs.Tables.{users_tree, equals}
use Rattle.part_store.specs.Changes.{IsPut}
use Rattle.part_store.specs.Standing.{HaveOneRow}
use Rattle.part_store.proofs.Equals.{equal_texts}
use Rattle.part_store.proofs.Gaining.{put_or_was}

pub same_bytes : (m n : List ℕ) → bytes_eq m n ≡ true → m ≡ n
same_bytes m n h = (bytes_eq-Decides m n).0 h

pub bytes_same : (m : List ℕ) → bytes_eq m m ≡ true
bytes_same m = (bytes_eq-Decides m m).1 refl

module _ (db mid new : Trees) (user : List ℕ) (values : Row) (apart : HaveOneRow (db users_tree)) (rest : mid users_tree ≡ filter (λ r. not (equals 1 (Text user) r)) (db users_tree))
    (id : ℤ) (put_in : IsPut users_tree (Int id ∷ Text user ∷ values) mid new) where
  -- a row that was left isn't the user's
  left : (r : Row) → Has (mid users_tree) r → Has (db users_tree) r × (equals 1 (Text user) r ≡ false)
  left r there =
      let kept = has_filtered _ (db users_tree) r (subst (λ rows. Has rows r) rest there) in
      (kept.0, not-true _ kept.1)

  -- the row that was put in is only the user's
  clash : (name : List ℕ) (one other : Row) → one ≡ Int id ∷ Text user ∷ values → Has (mid users_tree) other → equals 1 (Text name) one ≡ true → equals 1 (Text name) other ≡ true → ⊥
  clash name one other is there named also =
      let same = same_bytes user name (sym (equal_texts user name) ∙ sym (ap (equals 1 (Text name)) is) ∙ named) in
      true≢false (sym also ∙ ap (λ n. equals 1 (Text n) other) (sym same) ∙ (left other there).1)

  pub apart_put : HaveOneRow (new users_tree)
  apart_put name one other h k is also = elim (put_or_was users_tree _ mid new put_in one h) [
    | inl put ↦ elim (put_or_was users_tree _ mid new put_in other k) [
      | inl put_too ↦ put ∙ sym put_too
      | inr was ↦ absurd (clash name one other put was is also)
    ]
    | inr was ↦ elim (put_or_was users_tree _ mid new put_in other k) [
      | inl put ↦ absurd (clash name other one put was also is)
      | inr was_too ↦ apart name one other (left one was).0 (left other was_too).0 is also
    ]
  ]
