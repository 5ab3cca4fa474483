-- A failure of one call of several is one of them all.
use Rattle.std.proofs.Common.{◌≡◌, ◌≢◌, inl, inr, ℕ, ◌<◌, true, length, refl, sym, subst, ◌∙◌, IsSome, IsTrue, arith}
use Rattle.std.proofs.lemmas.Bool.{cases_Bool, true≢false}
use Rattle.sqlite_trees.specs.Tree.{Trees}
use Rattle.sqlite_value.specs.Order.{Row}
use Rattle.sqlite.specs.declared.error.Error.{Error}
use Rattle.sqlite.specs.declared.error.Error.TheVariants.{SqliteFailure}
use Rattle.sqlite.specs.declared.error.ErrorCode.TheVariants.{OutOfMemory}
use Rattle.sqlite.specs.Steps.{FailsToCommit}
use Rattle.sqlite_trees.specs.declared.store.Store as store
use Rattle.sqlite.specs.Held.{Held, state}
use Rattle.sqlite.specs.State.{State, HasCleanDisk, Survives}
use Rattle.part_store.specs.Entries.{Entries}
use Rattle.part_store.specs.Refusals.{refusal_of, HasFailed, OnlyWhenFailedOr}
use Rattle.part_store.specs.declared.error.StoreError.{StoreError}
use Rattle.part_store.specs.declared.error.StoreError.TheVariants.{Database}
use Rattle.part_store.proofs.Faults.{failed, never}

module _ {Q : Trees → Type 0} (old mid new : State) (two : Survives mid new Q) where
  pub first_failed : HasFailed old mid → HasFailed old new
  first_failed (inl disk) = inl (omega (arith, disk, two.counts))
  first_failed (inr other) = inr other

module _ {P Q : Trees → Type 0} (old mid new : State) (one : Survives old mid P) (two : Survives mid new Q) (clean : HasCleanDisk new) where
  pub later_failed : HasFailed mid new → HasFailed old new
  later_failed (inl disk) = inl (omega (arith, disk, one.counts))
  later_failed (inr (inl shut)) = elim (cases_Bool old.is_open) [
    | inl on ↦ elim (one.closes (omega (arith, clean, two.clean)) on) [
      | inl still ↦ absurd (true≢false (sym still ∙ shut))
      | inr more ↦ inl (omega (arith, more, two.counts))
    ]
    | inr off ↦ inr (inl off)
  ]
  later_failed (inr (inr limited)) = inr (inr (subst IsSome one.limit limited))

-- what is readable is refused for want of memory alone
pub unread : {R : Type 0} (row : Row) (at : ℕ) (e : Error) → (e ≢ SqliteFailure OutOfMemory → at < length row → ¬ R) → at < length row → R → refusal_of e ≡ Database → ⊥
unread row at e kind within reads is = kind (λ same. absurd (let no = subst (λ x. refusal_of x ≡ Database) same is in cc)) within reads

-- a transaction that still goes on is committed unless the database fails
pub commit_blamed : (old new : State) (e : Error) → IsTrue old.in_transaction → FailsToCommit old new e → refusal_of e ≡ Database → HasFailed old new
commit_blamed old new e inside (inl h) is = never (failed old new ⊥ e is h)
commit_blamed old new e inside (inr h) is = absurd (true≢false (sym inside ∙ h.1))

-- a transaction that is dropped after a refusal
pub dropped : {S : Type 0} (g : store.Ghosts S) (conn : Held S) (mid new : State) (Other : Entries → Trees → Type 0) (e : StoreError) → Survives mid new (λ _. ⊥)
    → (IsTrue true → OnlyWhenFailedOr Other (state g (record conn { in_transaction = true })) mid e) → OnlyWhenFailedOr Other (state g conn) new e
dropped g conn mid new Other e two cause is before stands = elim (cause refl is before stands) [ inl failed ↦ inl (first_failed (state g conn) mid new two failed) | inr other ↦ inr other ]
