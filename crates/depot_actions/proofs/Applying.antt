-- What a call of the store comes to for a command of the depot.
use Rattle.std.proofs.Common.{◌≡◌, ◌≢◌, inl, inr, List, ℕ, Bool, true, false, IsTrue, Result, Ok, Err, IfOk, IfErr, IsErrAnd, MatchResult, OnErr, OnOk, Vec, arith, refl, sym, ap, subst, ◌∙◌}
use Rattle.std.proofs.lemmas.Result.{IfErr-weaker, on_ok_weaker}
use Rattle.std.specs.declared.alloc.Global.{Global}
use Rattle.sqlite_trees.specs.declared.store.Store.{Ghosts}
use Rattle.sqlite_trees.specs.Tree.{Trees}
use Rattle.sqlite.specs.Held.{Held, state}
use Rattle.sqlite.specs.State.{State, HasCleanDisk, Survives}
use Rattle.encodings.specs.Texts.{text_of}
use Rattle.encodings.specs.declared.encoding.Encoding.{Encoding}
use Rattle.part_store.specs.Access.{IsFailure, IsFailureOrAbsence, IsRefusedAs, MayMakeOpen, ReadsStore, WritesStore}
use Rattle.part_store.specs.Calls.{Always, CommitsNothing, DoneWhere, IfDone, IfRefused, MayCommit, OnRefused, RefusedWhere, Tells, WasOpen}
use Rattle.part_store.specs.Entries.{Entries, Entry, with_program, without_entry}
use Rattle.part_store.specs.Refusals.{AreNamed, HasNoUserRoom, OnlyWhenFailed, OnlyWhenFailedOr, OnlyWhenFailedOrNoUserRoom}
use Rattle.part_store.specs.Standing.{AddsVerified, HasNone, IsEntryAt, IsStored, LeavesUnchanged, Stands}
use Rattle.part_store.specs.declared.error.StoreError.{StoreError}
use Rattle.part_store.specs.declared.error.StoreError.TheVariants as store
use Rattle.refusals.specs.declared.refusal.Refusal.{Refusal}
use Rattle.refusals.specs.declared.refusal.Refusal.TheVariants.{Memory, NoSuchEntry, NumberFull, Collision, Database, UserName, Write}
use Rattle.refusals.specs.Scripts.{IsScriptRefusal}
use Rattle.sieve_engine.specs.Execution.{IsProgramRefusal}
use Rattle.depot_actions.specs.Applying.{Applies, HasFault, MayAdd, Spares, only_looks}
use Rattle.depot_actions.specs.Causes.{HasCause, IsFault, IsHindered, IsSound, IsUncounted, MayRefuse}
use Rattle.depot_actions.specs.DepotState.{Accepts, Command, Does, Done, Export, IsNamed, MayLeave, Migrate, Remove, Reply, SetCode, SetScript, Text}
use Rattle.depot_actions.specs.Overviews.{LooksOver}
use Rattle.depot_actions.specs.Private.{of_store}
use Rattle.depot_actions.specs.Users.{is_user_name}
use Rattle.depot_actions.proofs.Commands.{export_done, left_alone, made_done, removal_left, survives_more, unchanged_self}
use Rattle.depot_actions.proofs.StoreFaults.{failure_told, fault_told, of_answer, of_refusal, weaker_fault}

-- ---- refused before the store is asked

survives_self : (s : State) (P : Trees → Type 0) → Survives s s P
survives_self s P = record {
  clean = omega arith;
  shield = λ h. h;
  counts = omega arith;
  limit = refl;
  closes = λ clean is_open. inl is_open;
  crash = λ clean db may. inl may;
}

-- only `Database` is blamed on the store
no_blame : (command : Command) (old new : State) (e : Refusal) → e ≢ Database → HasFault command old new e
no_blame Migrate old new e other = λ named is. absurd (other is)
no_blame _ old new e other = λ is. absurd (other is)

-- ---- a call that is refused

spared : {S A : Type 0} (g : Ghosts S) (looks : Bool) (old new : Held S) (r : Result A Refusal) → Always g old new LeavesUnchanged → Spares looks g old new r
spared g true old new r same = same
spared g false old new (Ok x) same = λ clean. tt
spared g false old new (Err e) same = same

module _ {S A : Type 0} (g : Ghosts S) (old new : Held S) (command : Command) (reply : A → Reply) where
  -- by this refusal, which leaves the store as it was
  pub refused_by : (r : Result A Refusal) (e : Refusal) → IsErrAnd r (λ d. d ≡ e) → Always g old new LeavesUnchanged → MayRefuse command e
      → (HasCleanDisk (state g new) → HasCause e command (state g old)) → (HasCleanDisk (state g new) → HasFault command (state g old) (state g new) e)
      → MayCommit g old new (MayAdd command) → Applies g old new r command reply
  refused_by (Ok x) e is same may cause fault survives = absurd is
  refused_by (Err d) e is same may cause fault survives = record {
    done = λ clean. tt;
    unchanged = spared g (only_looks command) old new (Err d) same;
    which = subst (MayRefuse command) (sym is) may;
    refused = λ clean. subst (λ x. HasCause x command (state g old)) (sym is) (cause clean);
    cause = λ clean. subst (HasFault command (state g old) (state g new)) (sym is) (fault clean);
    survives = survives;
  }

module _ {S A : Type 0} (g : Ghosts S) (s : Held S) (command : Command) (reply : A → Reply) where
  -- before the store is asked
  pub refused_first : (r : Result A Refusal) (e : Refusal) → IsErrAnd r (λ d. d ≡ e) → MayRefuse command e → HasCause e command (state g s) → e ≢ Database → Applies g s s r command reply
  refused_first r e is may cause other = refused_by g s s command reply r e is (λ clean. unchanged_self (state g s)) may (λ clean. cause)
      (λ clean. no_blame command (state g s) (state g s) e other) (survives_self (state g s) (MayAdd command (state g s)))

  -- the user's name is none
  pub unnamed : (IsNamed command → ⊥) → Applies g s s (Err UserName) command reply
  unnamed none = refused_first (Err UserName) UserName refl (inl (refl, none)) none (λ is. cc is)

-- a script that is refused
script_cause : (e : Refusal) (user script : List ℕ) (s : State) → IsTrue (is_user_name user) → IsScriptRefusal script e → HasCause e (SetScript user script) s
script_cause Memory user script s named h = tt
script_cause UserName user script s named h = absurd h
script_cause NoSuchEntry user script s named h = absurd h
script_cause NumberFull user script s named h = absurd h
script_cause Collision user script s named h = absurd h
script_cause Database user script s named h = absurd h
script_cause Write user script s named h = absurd h
script_cause _ user script s named h = (named, h)

-- a program that is refused
program_cause : (e : Refusal) (user program : List ℕ) (s : State) → IsTrue (is_user_name user) → IsProgramRefusal program e → HasCause e (SetCode user program) s
program_cause Memory user program s named h = tt
program_cause UserName user program s named h = absurd h
program_cause NoSuchEntry user program s named h = absurd h
program_cause NumberFull user program s named h = absurd h
program_cause Collision user program s named h = absurd h
program_cause Database user program s named h = absurd h
program_cause Write user program s named h = absurd h
program_cause _ user program s named h = (named, h)

module _ {S A : Type 0} (g : Ghosts S) (s : Held S) (user text : List ℕ) (reply : A → Reply) (r : Result A Refusal) (e : Refusal) (is : IsErrAnd r (λ d. d ≡ e)) (named : IsTrue (is_user_name user)) where
  pub script_refused : IsScriptRefusal text e → Applies g s s r (SetScript user text) reply
  script_refused h = refused_first g s (SetScript user text) reply r e is (inr (named, inr (inl h))) (script_cause e user text (state g s) named h) (λ database. subst (IsScriptRefusal text) database h)

  pub program_refused : IsProgramRefusal text e → Applies g s s r (SetCode user text) reply
  program_refused h = refused_first g s (SetCode user text) reply r e is (inr (named, inr (inl h))) (program_cause e user text (state g s) named h) (λ database. subst (IsProgramRefusal text) database h)

-- ---- what the store answers, as it is told

abbrev pub IsToldOf : {T : Type 0} → Result T StoreError → Result T Refusal → Type 0
IsToldOf r told = MatchResult r (λ x. told ≡ Ok x) (λ e. IsErrAnd told (λ d. d ≡ of_store e))

module _ {T : Type 0} where
  ok_told : (P : T → Type 0) (r : Result T StoreError) (told : Result T Refusal) → IsToldOf r told → IfOk r P → IfOk told P
  ok_told P (Ok x) told cases h = subst (λ t. IfOk t P) (sym cases) h
  ok_told P (Err e) (Ok x) cases h = absurd cases
  ok_told P (Err e) (Err d) cases h = tt

  on_ok_told : (P : Type 0) (r : Result T StoreError) (told : Result T Refusal) → IsToldOf r told → OnOk r P → IfOk told (λ _. P)
  on_ok_told P (Ok x) told cases h = subst (λ t. IfOk t (λ _. P)) (sym cases) h
  on_ok_told P (Err e) (Ok x) cases h = absurd cases
  on_ok_told P (Err e) (Err d) cases h = tt

  err_told : (Q : Refusal → Type 0) (r : Result T StoreError) (told : Result T Refusal) → IsToldOf r told → IfErr r (λ e. Q (of_store e)) → IfErr told Q
  err_told Q (Ok x) told cases h = subst (λ t. IfErr t Q) (sym cases) tt
  err_told Q (Err e) (Ok x) cases h = absurd cases
  err_told Q (Err e) (Err d) cases h = subst Q (sym cases) h

  on_err_told : (P : Type 0) (r : Result T StoreError) (told : Result T Refusal) → IsToldOf r told → OnErr r P → OnErr told P
  on_err_told P (Ok x) told cases h = subst (λ t. OnErr t P) (sym cases) tt
  on_err_told P (Err e) (Ok x) cases h = absurd cases
  on_err_told P (Err e) (Err d) cases h = h

  both_ok : (P : T → Type 0) (Q : Type 0) (R : T → Type 0) (r : Result T StoreError) → IfOk r P → OnOk r Q → ((x : T) → P x → Q → R x) → IfOk r R
  both_ok P Q R (Ok x) p q f = f x p q
  both_ok P Q R (Err e) p q f = tt

  on_ok_both : (P Q R : Type 0) (r : Result T StoreError) → OnOk r P → OnOk r Q → (P → Q → R) → OnOk r R
  on_ok_both P Q R (Ok x) p q f = f p q
  on_ok_both P Q R (Err e) p q f = tt

  all_err : (P Q R End : StoreError → Type 0) (r : Result T StoreError) → IfErr r P → IfErr r Q → IfErr r R → ((e : StoreError) → P e → Q e → R e → End e) → IfErr r End
  all_err P Q R End (Ok x) p q r f = tt
  all_err P Q R End (Err e) p q r f = f e p q r

may_fail : (command : Command) → IsNamed command → IsSound command → (e : StoreError) → IsFailure e → MayRefuse command (of_store e)
may_fail command named sound e failure = inr (named, elim failure [ inl is ↦ inl (ap of_store is) | inr is ↦ inr (inr (ap of_store is, sound)) ])

failed_for : (command : Command) (s : State) → IsNamed command → IsSound command → (e : StoreError) → IsFailure e → HasCause (of_store e) command s
failed_for command s named sound e failure = elim failure [
  | inl is ↦ subst (λ d. HasCause (of_store d) command s) (sym is) tt
  | inr is ↦ subst (λ d. HasCause (of_store d) command s) (sym is) (named, sound)
]

made_left : (change : Entries → Entries) (command : Command) (reply : Reply) (old : State) → ((before : Entries) → Accepts before command reply (change before))
    → (trees : Trees) → MayMakeOpen change old trees → MayLeave command old trees
made_left change command reply old accepts trees (is_open, left) = (is_open, λ before stands. (reply, change before, accepts before, (left before stands).0))

-- what commits nothing may be said to commit anything
pub nothing_more : {S : Type 0} (g : Ghosts S) (old new : Held S) (Commits : State → Trees → Type 0) → CommitsNothing g old new → MayCommit g old new Commits
nothing_more g old new Commits = survives_more (state g old) (state g new) (λ _. ⊥) (Commits (state g old)) (λ db none. absurd none)

-- ---- calls of the store, as calls of the depot

-- nothing has changed in a call that is refused
pub unchanged_by : {T : Type 0} (r : Result T StoreError) (told : Result T Refusal) → IsToldOf r told → (e : Refusal) → told ≡ Err e → (P : Type 0) → OnErr r P → P
unchanged_by r told cases e was P h = subst (λ t. OnErr t P) was (on_err_told P r told cases h)

-- the store refuses, and its refusal is passed on
module _ {S T A : Type 0} (g : Ghosts S) (old new : Held S) (r : Result T StoreError) (told : Result T Refusal) (cases : IsToldOf r told) (e : Refusal) (was : told ≡ Err e) where
  pub failed_on : (result : Result A Refusal) → IsErrAnd result (λ d. d ≡ e) → (command : Command) (reply : A → Reply) → IsNamed command → IsSound command → IfErr r IsFailure
      → Always g old new LeavesUnchanged → (HasCleanDisk (state g new) → HasFault command (state g old) (state g new) e) → MayCommit g old new (MayAdd command) → Applies g old new result command reply
  failed_on result passed command reply named sound failure same fault survives =
      refused_by g old new command reply result e passed same
      (of_refusal told e (MayRefuse command) was (err_told (MayRefuse command) r told cases (IfErr-weaker r _ _ (may_fail command named sound) failure)))
      (λ clean. of_refusal told e (λ d. HasCause d command (state g old)) was (err_told (λ d. HasCause d command (state g old)) r told cases (IfErr-weaker r _ _ (failed_for command (state g old) named sound) failure)))
      fault survives

module _ {S T : Type 0} (g : Ghosts S) (old new : Held S) (r : Result T StoreError) (told : Result T Refusal) (cases : IsToldOf r told)
    (command : Command) (named : IsNamed command) (sound : IsSound command) where
  -- a user's program is stored
  pub program_stored : (user octets : List ℕ)
      → ((before : Entries) → Accepts before command Done (with_program user octets before))
      → ((before : Entries) → HasNoUserRoom user (with_program user octets before) (state g old).now.trees → IsHindered command before (state g old).now.trees)
      → (OnRefused g old new told LeavesUnchanged → Spares (only_looks command) g old new told)
      → ((e : Refusal) → IsFault command (state g old) (state g new) e → HasFault command (state g old) (state g new) e)
      → (MayCommit g old new (MayLeave command) → MayCommit g old new (MayAdd command))
      → WritesStore g old new r (with_program user octets) (MayMakeOpen (with_program user octets))
      → IsRefusedAs g old new r IsFailure (OnlyWhenFailedOrNoUserRoom user (with_program user octets))
      → Applies g old new told command (λ _. Done)
  program_stored user octets accepts roomless spared blamed added writes refused = record {
    done = λ clean. on_ok_told (Does command Done (state g old) (state g new)) r told cases
        (on_ok_weaker r (λ makes. made_done (with_program user octets) command Done (state g old) (state g new) makes (λ before stands. accepts before)) (writes.made clean));
    unchanged = spared (λ clean. on_err_told _ r told cases (writes.unchanged clean));
    which = err_told (MayRefuse command) r told cases (IfErr-weaker r _ _ (may_fail command named sound) refused.which);
    refused = λ clean. err_told (λ e. HasCause e command (state g old)) r told cases (IfErr-weaker r _ _ (failed_for command (state g old) named sound) refused.which);
    cause = λ clean. IfErr-weaker told _ _ (λ e h. blamed e (weaker_fault (λ before. HasNoUserRoom user (with_program user octets before)) (IsHindered command) (state g old) (state g new) e (λ before stands. roomless before) h))
        (fault_told (λ before. HasNoUserRoom user (with_program user octets before)) (state g old) (state g new) r told cases (refused.cause clean));
    survives = added (survives_more (state g old) (state g new) _ _ (made_left (with_program user octets) command Done (state g old) accepts) writes.survives);
  }

  -- what the store stands for is told
  pub looked : (reply : T → Reply) (Is : Entries → T → Type 0)
      → ((before : Entries) (x : T) → Is before x → Accepts before command (reply x) before)
      → (Always g old new LeavesUnchanged → Spares (only_looks command) g old new told)
      → ((e : Refusal) → IsFault command (state g old) (state g new) e → HasFault command (state g old) (state g new) e)
      → (CommitsNothing g old new → MayCommit g old new (MayAdd command))
      → Tells g old new r Is → ReadsStore g old new r → IsRefusedAs g old new r IsFailure OnlyWhenFailed
      → Applies g old new told command reply
  looked reply Is accepts spared blamed added tells reads refused = record {
    done = λ clean. ok_told (λ x. Does command (reply x) (state g old) (state g new)) r told cases (both_ok _ _ _ r (tells clean) (reads.was_open clean) (λ x is was_open. (
      was_open,
      λ before stands. (before, accepts before x (is before stands), left_alone (state g old) (state g new) before was_open (reads.settled clean) (reads.unchanged clean) stands),
    )));
    unchanged = spared reads.unchanged;
    which = err_told (MayRefuse command) r told cases (IfErr-weaker r _ _ (may_fail command named sound) refused.which);
    refused = λ clean. err_told (λ e. HasCause e command (state g old)) r told cases (IfErr-weaker r _ _ (failed_for command (state g old) named sound) refused.which);
    cause = λ clean. IfErr-weaker told _ _ blamed (failure_told (IsHindered command) (state g old) (state g new) r told cases (refused.cause clean));
    survives = added reads.survives;
  }

module _ {S T : Type 0} (g : Ghosts S) (old new : Held S) (r : Result T StoreError) (told : Result T Refusal) (cases : IsToldOf r told)
    (user : List ℕ) (number : ℕ) (named : IsTrue (is_user_name user)) where
  abbrev removal : Command
  removal = Remove user number

  may_lack : (e : StoreError) → IsFailureOrAbsence e → MayRefuse removal (of_store e)
  may_lack e (inl is) = inr (named, inl (ap of_store is))
  may_lack e (inr (inl is)) = inr (named, inr (inl (ap of_store is)))
  may_lack e (inr (inr is)) = inr (named, inr (inr (ap of_store is, tt)))

  lacked : (e : StoreError) → IsFailureOrAbsence e → (e ≡ store.NoSuchEntry → IsTrue (state g old).is_open)
      → (e ≡ store.NoSuchEntry → (before : Entries) → Stands (state g old).now before → HasNone before user number) → HasCause (of_store e) removal (state g old)
  lacked e (inl is) begun absent = subst (λ d. HasCause (of_store d) removal (state g old)) (sym is) tt
  lacked e (inr (inl is)) begun absent = subst (λ d. HasCause (of_store d) removal (state g old)) (sym is) (named, begun is, absent is)
  lacked e (inr (inr is)) begun absent = subst (λ d. HasCause (of_store d) removal (state g old)) (sym is) (named, tt)

  -- an entry is removed
  pub entry_removed : DoneWhere g old new r (λ before. (x : Entry) × IsEntryAt before user number x)
      → RefusedWhere g old new r store.NoSuchEntry (λ before. HasNone before user number)
      → IfRefused g old new r (λ old _ e. e ≡ store.NoSuchEntry → IsTrue old.is_open)
      → WritesStore g old new r (without_entry user number) (λ old trees. IsTrue old.is_open
      × ((before : Entries) → Stands old.now before → ((x : Entry) × IsEntryAt before user number x) × IsStored trees (without_entry user number before) × AddsVerified old.now.trees trees))
      → IsRefusedAs g old new r IsFailureOrAbsence OnlyWhenFailed
      → Applies g old new told removal (λ _. Done)
  entry_removed there absent begun writes refused = record {
    done = λ clean. on_ok_told (Does removal Done (state g old) (state g new)) r told cases (on_ok_both _ _ _ r (there clean) (writes.made clean) (λ found makes.
        made_done (without_entry user number) removal Done (state g old) (state g new) makes (λ before stands. let x = found before stands in record { named = named; step = (x.0, x.1, refl, refl) })));
    unchanged = λ clean. on_err_told _ r told cases (writes.unchanged clean);
    which = err_told (MayRefuse removal) r told cases (IfErr-weaker r _ _ may_lack refused.which);
    refused = λ clean. err_told (λ e. HasCause e removal (state g old)) r told cases
        (all_err _ _ _ _ r refused.which (begun clean) (absent clean) lacked);
    cause = λ clean. failure_told (IsHindered removal) (state g old) (state g new) r told cases (refused.cause clean);
    survives = survives_more (state g old) (state g new) _ _ (removal_left (state g old) (state g new) user named number) writes.survives;
  }

-- an entry's octets are read, and their text is what an export replies
pub exported : {S : Type 0} (g : Ghosts S) (old new : Held S) (r : Result (Vec ℕ Global) StoreError) (told : Result (Vec ℕ Global) Refusal) → IsToldOf r told → (octets : Vec ℕ Global) → told ≡ Ok octets
    → (user : List ℕ) (number : ℕ) (encoding : Encoding) (written : List ℕ) → IsTrue (is_user_name user) → written ≡ octets.items
    → Tells g old new r (λ before octets. (x : Entry) × IsEntryAt before user number x × (octets.items ≡ x.octets)) → ReadsStore g old new r → Always g old new (Does (Export user number encoding) (Text (text_of encoding written)))
exported g old new r told cases octets was user number encoding written named same answer reads clean =
    let found = of_answer r told cases in
    export_done (state g old) (state g new) user named number encoding written (found (λ _. WasOpen (state g old) (state g new)) (reads.was_open clean) octets was) (reads.settled clean) (reads.unchanged clean)
    (λ before stands. let (x, at, is) = found (λ v. (before : Entries) → Stands (state g old).now before → (x : Entry) × IsEntryAt before user number x × (v.items ≡ x.octets)) (answer clean) octets was before stands in (x, at, same ∙ is))

-- a depot is looked over by one call of the store
pub looked_over : {S T : Type 0} (g : Ghosts S) (old new : Held S) (r : Result T StoreError) (told : Result T Refusal) → IsToldOf r told → (Is : Trees → Entries → T → Type 0)
    → IfDone g old new r (λ x old _. (before : Entries) → Stands old.now before → Is old.now.trees before x) → ReadsStore g old new r → (Why : State → State → StoreError → Type 0) → IsRefusedAs g old new r IsFailure Why
    → ((e : StoreError) → AreNamed (state g old).now.trees → Why (state g old) (state g new) e → OnlyWhenFailedOr IsUncounted (state g old) (state g new) e) → LooksOver g old new told Is
looked_over g old new r told cases Is answer reads Why refused blamed = record {
  answer = λ clean. ok_told _ r told cases (both_ok _ _ _ r (answer clean) (reads.was_open clean) (λ x is was_open. (was_open, is)));
  unchanged = reads.unchanged;
  refused = err_told _ r told cases (IfErr-weaker r _ _ (λ e failure. elim failure [ inl is ↦ inl (ap of_store is) | inr is ↦ inr (ap of_store is) ]) refused.which);
  cause = λ clean named. fault_told IsUncounted (state g old) (state g new) r told cases (IfErr-weaker r _ _ (λ e h. blamed e named h) (refused.cause clean));
  survives = reads.survives;
}
