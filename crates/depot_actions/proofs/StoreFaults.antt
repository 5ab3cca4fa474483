-- A refusal of the store is a command's, for the same cause.
use Rattle.std.proofs.Common.{◌≡◌, inl, inr, Ok, Err, Result, MatchResult, IfOk, IfErr, IsErrAnd, refl, sym, ap, subst, ◌∙◌}
use Rattle.std.proofs.lemmas.Bool.{cases_Bool}
use Rattle.std.proofs.lemmas.Result.{IfOk-at_ok}
use Rattle.sqlite_trees.specs.Tree.{Trees}
use Rattle.sqlite.specs.Effect.{Database as Held}
use Rattle.sqlite.specs.State.{State, HasCleanDisk, Survives}
use Rattle.part_store.specs.Entries.{Entries}
use Rattle.part_store.specs.Refusals.{OnlyWhenFailed, OnlyWhenFailedOr}
use Rattle.part_store.specs.Standing.{LeavesUnchanged, Stands}
use Rattle.part_store.specs.declared.error.StoreError.{StoreError}
use Rattle.part_store.specs.declared.error.StoreError.TheVariants as store
use Rattle.part_store.proofs.Failing.{later_failed}
use Rattle.refusals.specs.declared.refusal.Refusal.{Refusal}
use Rattle.refusals.specs.declared.refusal.Refusal.TheVariants.{Database}
use Rattle.depot_actions.specs.Causes.{IsStoreFault}
use Rattle.depot_actions.specs.Private.{of_store}
use Rattle.depot_actions.proofs.Commands.{stands_still}

pub of_database : (e : StoreError) → of_store e ≡ Database → e ≡ store.Database
of_database store.Memory is = absurd cc
of_database store.NoSuchEntry is = absurd cc
of_database store.NumberFull is = absurd cc
of_database store.Collision is = absurd cc
of_database store.Database is = refl

module _ {T : Type 0} (Other : Entries → Trees → Type 0) (old new : State) where
  pub fault_told : (r : Result T StoreError) (told : Result T Refusal) → MatchResult r (λ x. told ≡ Ok x) (λ e. IsErrAnd told (λ d. d ≡ of_store e)) → IfErr r (OnlyWhenFailedOr Other old new)
      → IfErr told (IsStoreFault Other old new)
  fault_told (Ok x) told cases blames = subst (λ t. IfErr t (IsStoreFault Other old new)) (sym cases) tt
  fault_told (Err e) (Ok x) cases blames = absurd cases
  fault_told (Err e) (Err d) cases blames = λ is. blames (of_database e (sym cases ∙ is))

  -- the same of a call that only reads
  pub failure_told : (r : Result T StoreError) (told : Result T Refusal) → MatchResult r (λ x. told ≡ Ok x) (λ e. IsErrAnd told (λ d. d ≡ of_store e)) → IfErr r (OnlyWhenFailed old new)
      → IfErr told (IsStoreFault Other old new)
  failure_told (Ok x) told cases blames = subst (λ t. IfErr t (IsStoreFault Other old new)) (sym cases) tt
  failure_told (Err e) (Ok x) cases blames = absurd cases
  failure_told (Err e) (Err d) cases blames = λ is before stands. inl (blames (of_database e (sym cases ∙ is)) before stands)

-- a later call of a store that was only read
pub later_fault : {P Q : Trees → Type 0} (Other : Entries → Trees → Type 0) (old mid new : State) (refusal : Refusal) → LeavesUnchanged old mid → Survives old mid P → Survives mid new Q → HasCleanDisk new
    → IsStoreFault Other mid new refusal → IsStoreFault Other old new refusal
later_fault Other old mid new refusal spares one two clean fault is before stands = elim (cases_Bool mid.is_open) [
  | inl on ↦
      let same = ap (λ (d : Held). d.trees) (spares.same stands.schema on).0 in
      elim (fault is before (stands_still old mid before spares stands on)) [ inl failed ↦ inl (later_failed old mid new one two clean failed) | inr other ↦ inr (subst (Other before) same other) ]
  | inr shut ↦ inl (later_failed old mid new one two clean (inr (inl shut)))
]

pub weaker_fault : (One Other : Entries → Trees → Type 0) (old new : State) (refusal : Refusal) → ((before : Entries) → Stands old.now before → One before old.now.trees → Other before old.now.trees)
    → IsStoreFault One old new refusal → IsStoreFault Other old new refusal
weaker_fault One Other old new refusal weaker fault is before stands = elim (fault is before stands) [ inl failed ↦ inl failed | inr one ↦ inr (weaker before stands one) ]

-- a refusal that `?` passes on
pub passed_on : {T : Type 0} (r : Result T Refusal) (given : Refusal) (P : Refusal → Type 0) → IsErrAnd r (λ e. e ≡ given) → P given → IfErr r P
passed_on (Ok x) given P h holds = tt
passed_on (Err e) given P h holds = subst P (sym h) holds

pub of_refusal : {T : Type 0} (r : Result T Refusal) (e : Refusal) (P : Refusal → Type 0) → r ≡ Err e → IfErr r P → P e
of_refusal r e P is h = subst (λ t. IfErr t P) is h

-- an answer of the store, where it is passed on
pub of_answer : {T : Type 0} (r : Result T StoreError) (told : Result T Refusal) → MatchResult r (λ x. told ≡ Ok x) (λ e. IsErrAnd told (λ d. d ≡ of_store e)) → (P : T → Type 0) → IfOk r P
    → (x : T) → told ≡ Ok x → P x
of_answer (Ok y) told cases P h x is = IfOk-at_ok P is (subst (λ t. IfOk t P) (sym cases) h)
of_answer (Err e) told cases P h x is = absurd (subst (λ t. IsErrAnd t (λ d. d ≡ of_store e)) is cases)
