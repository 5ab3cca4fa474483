-- What is promised of work within a transaction that begins by reading.
use Rattle.std.proofs.Common.{◌≡◌, ◌∙◌, Result, Ok, Err, OnOk, IsErrAnd, arith}
use Rattle.std.specs.Borrow.{MutBor}
use Rattle.sqlite_trees.specs.declared.store.Store.{Ghosts}
use Rattle.sqlite_trees.specs.Tree.{Trees}
use Rattle.sqlite.specs.Held.{Held, state}
use Rattle.sqlite.specs.State.{State, HasCleanDisk, Survives}
use Rattle.sqlite.specs.declared.error.Error.{Error}
use Rattle.sqlite.proofs.StateLemmas.{survives_then}
use Rattle.part_store.specs.Calls.{Always}
use Rattle.part_store.specs.Inside.{KeepsStored, KeepsTables}
use Rattle.part_store.specs.Private.{AsksTables, KeepsInside, ReadsInside, WorksInside, WritesTables}
use Rattle.part_store.proofs.Entering.{kept_then}

-- what is so whatever is answered, and what is said of what isn't done
pub anyway : {B E : Type 0} (r : Result B E) (P : Type 0) → P → OnOk r P
anyway (Ok b) P h = h
anyway (Err e) P h = tt

pub undone : {B E : Type 0} (r : Result B E) (Q : E → Type 0) (P : Type 0) → IsErrAnd r Q → OnOk r P
undone (Ok b) Q P h = absurd h
undone (Err e) Q P h = tt

module _ (old mid new : State) (one : Survives old mid (λ _. ⊥)) (two : Survives mid new (λ _. ⊥)) where
  early : HasCleanDisk new → HasCleanDisk mid
  early clean = omega (arith, clean, two.clean)

  -- two steps that commit nothing commit nothing
  pub both_survive : Survives old new (λ _. ⊥)
  both_survive = survives_then old mid new (λ _. ⊥) (λ _. ⊥) (λ _. ⊥) (λ _ _ h. h) (λ _ _ h. h) one two

  pub both_kept : (HasCleanDisk mid → KeepsStored old mid) → (HasCleanDisk mid → KeepsTables old mid) → (HasCleanDisk new → KeepsStored mid new) → HasCleanDisk new → KeepsStored old new
  both_kept first tables second clean has = kept_then old mid new (first (early clean) has) (second clean (tables (early clean) has))

module _ {S : Type 0} (g : Ghosts S) {old mid : MutBor (Held S)} where
  -- a statement that reads is such a beginning
  pub asked : {A : Type 0} {x : A} {Finds : A → Trees → Type 0} → AsksTables g old mid (Ok x) Finds → ReadsInside g old mid {A = A} {E = Error} (Ok x)
  asked asks = record {
    same_reference = asks.same_reference;
    was_open = asks.was_open;
    stays_closed = λ clean _. asks.was_open clean;
    same = λ clean has. let step = asks.step clean has in (step.schema, step.change.0);
    inside = λ clean has. (asks.step clean has).inside;
    kept = λ clean has. let step = asks.step clean has in record { was_open = λ _. step.was_open; committed = λ _. step.committed };
    survives = asks.survives;
  }

  -- what is read of what was found changes nothing
  pub reading : {A E B F : Type 0} {x : A} → ReadsInside g old mid {A = A} {E = E} (Ok x) → (r : Result B F) → ReadsInside g old mid r
  reading reads r = record {
    same_reference = reads.same_reference;
    was_open = λ clean. anyway r _ (reads.was_open clean);
    stays_closed = reads.stays_closed;
    same = λ clean. anyway r _ (reads.same clean);
    inside = λ clean. anyway r _ (reads.inside clean);
    kept = reads.kept;
    survives = reads.survives;
  }

  module _ {A E : Type 0} {x : A} (reads : ReadsInside g old mid {A = A} {E = E} (Ok x)) where
    pub works_after : {new : MutBor (Held S)} {B F : Type 0} (r : Result B F) → new.ghost_name ≡ mid.ghost_name → Always g mid.now new.now KeepsStored
        → Survives (state g mid.now) (state g new.now) (λ _. ⊥) → WorksInside g old new r
    works_after {new} r same kept survives = record {
      same_reference = same ∙ reads.same_reference;
      was_open = λ clean. anyway r _ (reads.was_open (early (state g old.now) (state g mid.now) (state g new.now) reads.survives survives clean));
      stays_closed = λ clean _. reads.was_open (early (state g old.now) (state g mid.now) (state g new.now) reads.survives survives clean);
      kept = both_kept (state g old.now) (state g mid.now) (state g new.now) reads.survives survives reads.kept (λ clean has. (reads.same clean has).0) kept;
      survives = both_survive (state g old.now) (state g mid.now) (state g new.now) reads.survives survives;
    }

    pub wrote : {new : MutBor (Held S)} {B C F : Type 0} {done : Result B Error} {Changes : State → State → Type 0} {Why : State → State → Error → Type 0} (r : Result C F) → WritesTables g mid new done Changes Why → WorksInside g old new r
    wrote r one = works_after r one.same_reference (λ clean _. one.kept clean) one.survives

    pub wrote_twice : {two new : MutBor (Held S)} {B B' C F : Type 0} {done : Result B Error} {done' : Result B' Error} {Changes Changes' : State → State → Type 0} {Why Why' : State → State → Error → Type 0} (r : Result C F)
        → WritesTables g mid two done Changes Why → WritesTables g two new done' Changes' Why' → WorksInside g old new r
    wrote_twice {two} {new} r one other =
        works_after r (other.same_reference ∙ one.same_reference)
        (λ clean _. kept_then (state g mid.now) (state g two.now) (state g new.now) (one.kept (early (state g mid.now) (state g two.now) (state g new.now) one.survives other.survives clean)) (other.kept clean))
        (both_survive (state g mid.now) (state g two.now) (state g new.now) one.survives other.survives)

    pub went_on : {new : MutBor (Held S)} {B C F G : Type 0} {done : Result B F} (r : Result C G) → KeepsInside g mid new done → WorksInside g old new r
    went_on r one = works_after r one.same_reference one.kept one.survives

    pub went_on_twice : {two new : MutBor (Held S)} {B B' C F F' G : Type 0} {y : B} {done' : Result B' F'} (r : Result C G)
        → KeepsInside g mid two {A = B} {E = F} (Ok y) → KeepsInside g two new done' → WorksInside g old new r
    went_on_twice {two} {new} r one other =
        works_after r (other.same_reference ∙ one.same_reference)
        (both_kept (state g mid.now) (state g two.now) (state g new.now) one.survives other.survives one.kept one.schema other.kept)
        (both_survive (state g mid.now) (state g two.now) (state g new.now) one.survives other.survives)
