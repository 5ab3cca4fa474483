-- A volume that is being begun changes nothing of what those that count hold.
use Rattle.std.proofs.Common.{◌≡◌, inl, inr, ℕ, zero, suc, List, [], ◌∷◌, ◌++◌, Option, None, Some, append-nil, refl, sym, subst, ◌∙◌, arith}
use Rattle.part_store.specs.Entries.{Entries, no_entries}
use Rattle.volumes.specs.Beginning.{AreBegun, Count, HasUsers, MayBeBeginning}
use Rattle.volumes.specs.Volumes.{AreVolumes, ComesAfter, begun, current, whole}
use Rattle.volumes.proofs.Whole.{begins_after, begins_whole, join_after, whole_at}

-- lists that are the same with one element more at their ends
same_front : (xs ys : List Entries) (x y : Entries) → xs ++ x ∷ [] ≡ ys ++ y ∷ [] → xs ≡ ys
same_front [] [] x y same = refl
same_front [] (e ∷ []) x y same = absurd (cc)
same_front [] (e ∷ f ∷ ys) x y same = absurd (cc)
same_front (d ∷ []) [] x y same = absurd (cc)
same_front (d ∷ e ∷ xs) [] x y same = absurd (cc)
same_front (d ∷ xs) (e ∷ ys) x y same =
    let here : d ≡ e = cc in
    let rest : xs ++ x ∷ [] ≡ ys ++ y ∷ [] = cc in
    let others = same_front xs ys x y rest in
    λ i. here i ∷ others i

-- who has no users
module _ (e : Entries) (none : HasUsers e → ⊥) where
  no_last : (user : List ℕ) → e.lasts user ≡ 0
  no_last user = go (e.lasts user) refl
    where
      go : (n : ℕ) → e.lasts user ≡ n → n ≡ 0
      go zero is = refl
      go (suc n) is = absurd (none (user, inl (omega (arith, is))))

  no_program : (user : List ℕ) → e.programs user ≡ None
  no_program user = go (e.programs user) refl
    where
      go : (program : Option (List ℕ)) → e.programs user ≡ program → program ≡ None
      go None is = refl
      go (Some program) is = absurd (none (user, inr (λ other. let both : Some program ≡ None = sym is ∙ other in cc)))

module _ (vs : List Entries) (none : HasUsers (current vs) → ⊥) where
  empty_whole : whole (vs ++ no_entries ∷ []) ≡ whole vs
  empty_whole = whole_at vs no_entries ∙ λ i. record {
    entries = append-nil (whole vs).entries i;
    programs = λ user. sym (no_program (current vs) none user) i;
    lasts = λ user. sym (no_last (current vs) none user) i;
  }

  empty_after : AreVolumes vs → AreVolumes (vs ++ no_entries ∷ [])
  empty_after are =
      let comes : ComesAfter (current vs) no_entries = record { lasts = λ user. omega (arith, no_last (current vs) none user); numbers = tt } in
      join_after no_entries vs (no_entries ∷ []) are (comes, tt)

-- what counts is what was there, if nothing was begun
counted_before : (vs counted : List Entries) → AreBegun vs → Count counted vs → counted ≡ vs
counted_before vs counted begun count = elim count [
  | inl all ↦ all.0
  | inr unbegun ↦ absurd (begun counted unbegun)
]

module _ (P : List Entries → Type 0) (vs : List Entries) (was : P vs) (empty : (HasUsers (current vs) → ⊥) → P (vs ++ no_entries ∷ [])) (next : P (vs ++ begun (current vs) ∷ [])) where
  counted_empty : (there counted : List Entries) → there ≡ vs ++ no_entries ∷ [] → Count counted there → P counted
  counted_empty there counted is count = elim count [
    | inl all ↦ subst P (sym (all.0 ∙ is)) (empty (λ users. all.1 vs (is, users)))
    | inr unbegun ↦ subst P (sym (same_front counted vs no_entries no_entries (sym unbegun.0 ∙ is))) was
  ]

  counted_begun : (there counted : List Entries) → there ≡ vs ++ begun (current vs) ∷ [] → Count counted there → P counted
  counted_begun there counted is count = elim count [
    | inl all ↦ subst P (sym (all.0 ∙ is)) next
    | inr unbegun ↦ subst P (sym (same_front counted vs no_entries (begun (current vs)) (sym unbegun.0 ∙ is))) was
  ]

  counted_has : (there counted : List Entries) → AreBegun vs → MayBeBeginning vs there → Count counted there → P counted
  counted_has there counted all (inl is) count =
      subst P (sym (counted_before vs counted all (subst (Count counted) is count))) was
  counted_has there counted all (inr (inl is)) count = counted_empty there counted is count
  counted_has there counted all (inr (inr is)) count = counted_begun there counted is count

pub counted_whole : (vs there counted : List Entries) → AreBegun vs → MayBeBeginning vs there → Count counted there → whole counted ≡ whole vs
counted_whole vs there counted all may count =
    counted_has (λ ws. whole ws ≡ whole vs) vs refl (empty_whole vs) (begins_whole vs) there counted all may count

pub counted_volumes : (vs there counted : List Entries) → AreVolumes vs → AreBegun vs → MayBeBeginning vs there → Count counted there → AreVolumes counted
counted_volumes vs there counted are all may count =
    counted_has AreVolumes vs are (λ none. empty_after vs none are) (begins_after vs are) there counted all may count
