-- What becomes of the addition of entries: they are refused in a transaction, which is rolled back then; the database fails; or they are committed.
use Rattle.std.proofs.Common.{◌≡◌, ◌≢◌, ◌⊎◌, inl, inr, ℕ, List, Result, Ok, Err, IsErrAnd, true, refl, sym, subst, ◌∙◌, arith}
use Rattle.sqlite_trees.specs.declared.store.Store as store
use Rattle.sqlite.specs.Held.{Held, state}
use Rattle.sqlite.specs.State.{HasCleanDisk, IsRolledBack, Survives}
use Rattle.sqlite.specs.declared.error.Error.{Error}
use Rattle.sqlite.specs.declared.error.Error.TheVariants.{SqliteFailure}
use Rattle.sqlite.specs.declared.error.ErrorCode.TheVariants.{OutOfMemory}
use Rattle.sqlite_trees.specs.Tree.{Trees}
use Rattle.part_store.specs.Access.{AddsEntries}
use Rattle.part_store.specs.Calls.{Always, StaysClosed}
use Rattle.part_store.specs.Refusals.{refusal_of}
use Rattle.part_store.specs.declared.entry.NewEntry.{NewEntry}
use Rattle.part_store.specs.declared.error.StoreError.{StoreError}
use Rattle.part_store.specs.declared.error.StoreError.TheVariants.{Memory, NumberFull, Collision, Database}

pub refused_adds : {S : Type 0} (g : store.Ghosts S) (conn mid new : Held S) (user : List ℕ) (entries : List NewEntry) (e : StoreError) (result : Result ℕ StoreError)
    → IsErrAnd result (λ x. x ≡ e) → Survives (state g mid) (state g new) (λ _. ⊥) → (HasCleanDisk (state g new) → IsRolledBack (state g mid) (state g new))
    → AddsEntries g (record conn { in_transaction = true }) mid (Err e) user entries → AddsEntries g conn new result user entries
refused_adds g conn mid new user entries e (Ok first) is survives undone adds = absurd is
refused_adds g conn mid new user entries e (Err x) is survives undone adds =
    let early = λ (clean : HasCleanDisk (state g new)). let r : HasCleanDisk (state g mid) = omega (arith, clean, survives.clean) in r in
    record {
      first = λ clean. tt;
      room = λ clean. tt;
      apart = λ clean. tt;
      full = λ clean same. adds.full (early clean) (sym is ∙ same);
      collision = λ clean same. adds.collision (early clean) (sym is ∙ same);
      was_open = λ clean. tt;
      begun = λ clean kind. adds.begun (early clean) (subst (λ y. (y ≡ NumberFull) ⊎ (y ≡ Collision)) is kind);
      stays_closed = λ clean is_open. adds.stays_closed (early clean) ((undone clean).was_open is_open);
    }

-- the database's error is neither want of numbers nor a collision
its_own : (error : Error) → (refusal_of error ≡ Memory) ⊎ (refusal_of error ≡ Database)
its_own (SqliteFailure OutOfMemory) = inl refl
its_own _ = inr refl

never_full : (error : Error) → refusal_of error ≢ NumberFull
never_full error same = elim (its_own error) [ inl memory ↦ let no = sym memory ∙ same in absurd (cc) | inr database ↦ let no = sym database ∙ same in absurd (cc) ]

never_collides : (error : Error) → refusal_of error ≢ Collision
never_collides error same = elim (its_own error) [ inl memory ↦ let no = sym memory ∙ same in absurd (cc) | inr database ↦ let no = sym database ∙ same in absurd (cc) ]

pub failed_adds : {S : Type 0} (g : store.Ghosts S) (old new : Held S) (user : List ℕ) (entries : List NewEntry) (error : Error) (result : Result ℕ StoreError)
    → IsErrAnd result (λ x. x ≡ refusal_of error) → Always g old new StaysClosed → AddsEntries g old new result user entries
failed_adds g old new user entries error (Ok first) is closed = absurd is
failed_adds g old new user entries error (Err x) is closed = record {
  first = λ _. tt;
  room = λ _. tt;
  apart = λ _. tt;
  full = λ _ same. absurd (never_full error (sym is ∙ same));
  collision = λ _ same. absurd (never_collides error (sym is ∙ same));
  was_open = λ _. tt;
  begun = λ _ kind. elim kind [ inl full ↦ absurd (never_full error (sym is ∙ full)) | inr collision ↦ absurd (never_collides error (sym is ∙ collision)) ];
  stays_closed = closed;
}

-- what is added in a transaction is added once that is committed
pub committed_adds : {S : Type 0} (g : store.Ghosts S) (conn mid new : Held S) (user : List ℕ) (entries : List NewEntry) (first : ℕ) {Commits : Trees → Type 0} → Survives (state g mid) (state g new) Commits
    → AddsEntries g (record conn { in_transaction = true }) mid (Ok first) user entries → AddsEntries g conn new (Ok first) user entries
committed_adds g conn mid new user entries first survives adds =
    let early = λ (clean : HasCleanDisk (state g new)). let r : HasCleanDisk (state g mid) = omega (arith, clean, survives.clean) in r in
    record {
      first = λ clean. adds.first (early clean);
      room = λ clean. adds.room (early clean);
      apart = λ clean. adds.apart (early clean);
      full = λ _. tt;
      collision = λ _. tt;
      was_open = λ clean. adds.was_open (early clean);
      begun = λ _. tt;
      stays_closed = λ clean _. adds.was_open (early clean);
    }
