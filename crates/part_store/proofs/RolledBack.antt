-- What is left of a call whose transaction is dropped, and so rolled back.
use Rattle.std.proofs.Common.{◌≡◌, ◌∙◌, Result, Ok, Err, OnOk, OnErr, IsErrAnd, IsTrue, arith, sym, subst, true}
use Rattle.sqlite_trees.specs.declared.store.Store as store
use Rattle.sqlite_trees.specs.Tree.{Trees}
use Rattle.sqlite.specs.Held.{Held, state}
use Rattle.sqlite.specs.State.{State, HasCleanDisk, IsRolledBack, Survives}
use Rattle.sqlite.proofs.Callers.{survives_begin}
use Rattle.sqlite.proofs.StateLemmas.{survives_weaker}
use Rattle.part_store.specs.Access.{ReadsStore, WritesStore}
use Rattle.part_store.specs.Calls.{Always, CommitsNothing, StaysClosed}
use Rattle.part_store.specs.Entries.{Entries}
use Rattle.part_store.specs.Inside.{KeepsStored}
use Rattle.part_store.specs.Standing.{LeavesUnchanged}
use Rattle.part_store.proofs.Afterwards.{both_survive, undone}

if_refused : {B E : Type 0} (r : Result B E) (P : Type 0) → P → OnErr r P
if_refused (Ok b) P h = tt
if_refused (Err e) P h = h

-- a transaction was begun, commits nothing, and is dropped
module _ {S : Type 0} (g : store.Ghosts S) (old at mid new : Held S) (begun : at ≡ record old { in_transaction = true }) (settled : IsTrue (state g old).is_open → (state g old).now ≡ (state g old).committed)
    (survives : CommitsNothing g at mid) (closed : Always g at mid StaysClosed) (kept : Always g at mid KeepsStored) (drops : CommitsNothing g mid new) (rolled : HasCleanDisk (state g new) → IsRolledBack (state g mid) (state g new)) where
  abbrev started : Held S
  started = record old { in_transaction = true }

  early : HasCleanDisk (state g new) → HasCleanDisk (state g mid)
  early clean = omega (arith, clean, drops.clean)

  nothing : CommitsNothing g started new
  nothing = both_survive (state g started) (state g mid) (state g new) (subst (λ h. CommitsNothing g h mid) begun survives) drops

  pub left : Always g old new LeavesUnchanged
  left clean =
      let back = rolled clean in
      let stays = subst (λ h. Always g h mid StaysClosed) begun closed (early clean) in
      let keeps = subst (λ h. Always g h mid KeepsStored) begun kept (early clean) in
      record {
        same = λ has is_open.
            let was = back.was_open is_open in
            let same = (keeps has).committed was in
            ((back.undone is_open).0 ∙ same ∙ sym (settled (stays was)), (back.undone is_open).1 ∙ same);
        stays_closed = λ is_open. stays (back.was_open is_open);
        closes = nothing.closes clean;
      }

  pub read_back : {A E : Type 0} (result : Result A E) → (HasCleanDisk (state g mid) → OnOk result (IsTrue (state g at).is_open)) → ReadsStore g old new result
  read_back result opened = record {
    was_open = λ clean. subst (λ h. OnOk result (IsTrue (state g h).is_open)) begun (opened (early clean));
    unchanged = left;
    settled = λ clean is_open. let back = (rolled clean).undone is_open in back.1 ∙ sym back.0;
    survives = survives_begin g old (state g new) (λ _. ⊥) nothing;
  }

  pub given_up : {A E : Type 0} (result : Result A E) (Q : E → Type 0) (change : Entries → Entries) (Commits : State → Trees → Type 0) → IsErrAnd result Q → WritesStore g old new result change Commits
  given_up result Q change Commits is = record {
    made = λ _. undone result Q _ is;
    unchanged = λ clean. if_refused result _ (left clean);
    survives = survives_begin g old (state g new) (Commits (state g old))
        (survives_weaker (state g started) (state g new) (λ _. ⊥) (Commits (state g old)) (λ _ _ none. absurd none) nothing);
  }
