-- What a query on one table answers.
use Rattle.std.proofs.Common.{◌≡◌, inl, inr, ℕ, ◌-◌, Bool, true, false, cond, List, [], ◌∷◌, ◌++◌, map, filter, flat_map, slice_get, None, refl, sym, ap, subst, ◌∙◌, IsPermutation, unwrap_or, nat_le, arith}
use Rattle.std.specs.List.{list_all}
use Rattle.std.proofs.lemmas.List.Sorted.{IsPermutation-sym, Contains-permutation, length_permutation}
use Rattle.sqlite_value.specs.declared.value.Value.{Value}
use Rattle.sqlite_value.specs.declared.value.Value.TheVariants.{Null}
use Rattle.sqlite_value.specs.Order.{Row}
use Rattle.sqlite_value.specs.declared.keys.Key.{Key}
use Rattle.sqlite_trees.specs.Tree.{Trees}
use Rattle.sqlite_sql.specs.Term.{Term, eval_all, holds}
use Rattle.sqlite_sql.specs.Query.{Query, IsAnswer, Output, output, matches_as, inner, end}
use Rattle.sqlite_sql.specs.Program.{overlay}
use Rattle.sqlite_rules.specs.Lists.{Has}
use Rattle.sqlite_rules.proofs.ListLemmas.{has_contained, contains_had, has_filtered, has_kept}
use Rattle.sqlite_rules.proofs.ProbeLemmas.{has_mapped, mapped_has}
use Rattle.part_store.proofs.Meaning.{picked}

pub bare : (db : Trees) (t : ℕ) → overlay db [] t ≡ db t
bare db t = elim (nat_le (2147483648) t) as (λ b. unwrap_or (cond b (slice_get [] (t - 2147483648)) None) (db t) ≡ db t) [ true ↦ refl | false ↦ refl ]

pub kept_each : {X Y : Type 0} (p : X → Bool) (f : X → Y) (xs : List X) → flat_map (λ x. cond (p x) (f x ∷ []) []) xs ≡ map f (filter p xs)
kept_each p f [] = refl
kept_each p f (x ∷ xs) = elim (p x) as (λ b. cond b (f x ∷ []) [] ++ flat_map (λ x. cond (p x) (f x ∷ []) []) xs ≡ map f (cond b (x ∷ filter p xs) (filter p xs)))
    [ true ↦ ap (λ ys. f x ∷ ys) (kept_each p f xs) | false ↦ kept_each p f xs ]

pub has_permuted : {X : Type 0} (xs ys : List X) (x : X) → IsPermutation xs ys → Has xs x → Has ys x
has_permuted xs ys x same h = has_contained ys x (Contains-permutation xs ys x same (contains_had xs x h))

one_permuted : {X : Type 0} (x : X) (ys : List X) → IsPermutation (x ∷ []) ys → ys ≡ x ∷ []
one_permuted x [] same = absurd (omega (arith, length_permutation (x ∷ []) [] same))
one_permuted x (y ∷ []) same = elim (has_permuted (x ∷ []) (y ∷ []) x same (inl refl)) [ inl is ↦ ap (λ z. z ∷ []) (sym is) | inr none ↦ absurd none ]
one_permuted x (y ∷ z ∷ ys) same = absurd (omega (arith, length_permutation (x ∷ []) (y ∷ z ∷ ys) same))

module _ (tree : ℕ) (tests shows : List Term) (order : List (Term × Key)) (db : Trees) (params : Row) where
  abbrev query : Query
  query = picked tree tests shows order

  abbrev pub passes : Row → Bool
  passes r = list_all (holds (params ∷ r ∷ [])) tests

  abbrev pub shown : Row → Row
  shown r = eval_all shows (params ∷ r ∷ [])

  abbrev out : Row → Output
  out r = output query (params ∷ r ∷ [])

  pub met : (lost : Value) → matches_as lost (overlay db []) tests (inner tree end) (params ∷ []) ≡ map (λ r. params ∷ r ∷ []) (filter passes (db tree))
  met lost = ap (flat_map (λ r. cond (passes r) ((params ∷ r ∷ []) ∷ []) [])) (bare db tree) ∙ kept_each passes (λ r. params ∷ r ∷ []) (db tree)

  -- what is shown is a row that passes
  pub answer_from : (rows : List Row) (row : Row) → IsAnswer query (overlay db []) params rows → Has rows row → (r : Row) × Has (db tree) r × (passes r ≡ true) × (row ≡ shown r)
  answer_from rows row a h =
      let o = has_mapped (λ (p : Output). p.1) a.ordered row (subst (λ l. Has l row) a.shown h) in
      let kept = has_permuted a.ordered a.kept o.0 (IsPermutation-sym _ _ a.same) o.1 in
      let env = has_mapped (output query) a.staged o.0 (subst (λ l. Has l o.0) a.distinct kept) in
      let r = has_mapped (λ (r : Row). params ∷ r ∷ []) (filter passes (db tree)) env.0 (subst (λ l. Has l env.0) (a.grouped ∙ met Null) env.1) in
      let there = has_filtered passes (db tree) r.0 r.1 in
      (r.0, there.0, there.1, o.2 ∙ ap (λ (p : Output). p.1) (env.2 ∙ ap (output query) r.2))

  -- each row that passes is shown
  pub answer_has : (rows : List Row) (r : Row) → IsAnswer query (overlay db []) params rows → Has (db tree) r → passes r ≡ true → Has rows (shown r)
  answer_has rows r a h is =
      let kept = has_kept passes (db tree) r h is in
      let staged : Has a.staged (params ∷ r ∷ []) = subst (λ l. Has l (params ∷ r ∷ [])) (sym (a.grouped ∙ met Null)) (mapped_has (λ (r : Row). params ∷ r ∷ []) (filter passes (db tree)) r kept) in
      let all : Has a.kept (out r) = subst (λ l. Has l (out r)) (sym a.distinct) (mapped_has (output query) a.staged (params ∷ r ∷ []) staged) in
      subst (λ l. Has l (shown r)) (sym a.shown) (mapped_has (λ (p : Output). p.1) a.ordered (out r) (has_permuted a.kept a.ordered (out r) a.same all))

  -- where one row passes, it alone is shown
  pub answer_one : (rows : List Row) (one : Row) → IsAnswer query (overlay db []) params rows → filter passes (db tree) ≡ one ∷ [] → rows ≡ shown one ∷ []
  answer_one rows one a only =
      let staged : a.staged ≡ (params ∷ one ∷ []) ∷ [] = a.grouped ∙ met Null ∙ ap (map (λ r. params ∷ r ∷ [])) only in
      let kept : a.kept ≡ out one ∷ [] = a.distinct ∙ ap (map (output query)) staged in
      let ordered : a.ordered ≡ out one ∷ [] = one_permuted (out one) a.ordered (subst (λ l. IsPermutation l a.ordered) kept a.same) in
      a.shown ∙ ap (map (λ (p : Output). p.1)) ordered
