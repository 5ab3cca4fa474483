use Rattle.depot_actions.proofs.StoreFaults.{failure_told, fault_told, of_refusal}
use Rattle.part_store.specs.Refusals.{HaveNoUserRoom}
use Rattle.depot_actions.specs.Applying.{Applies, MayAdd}
use Rattle.depot_actions.specs.Causes.{IsHindered}
use Rattle.std.proofs.Common.{◌≡◌, IsTrue, Ok, OnOk, arith, length, map, subst}
use Rattle.std.proofs.lemmas.List.{length-map}
use Rattle.std.proofs.lemmas.Result.{IfOk-at_ok, IfErr-weaker}
use Rattle.std.proofs.lemmas.Grind.{common_steps}
use Rattle.sqlite.specs.Held.{state}
use Rattle.sqlite.specs.State.{HasCleanDisk}
use Rattle.sqlite.proofs.StateLemmas.{survives_then}
use Rattle.part_store.specs.Entries.{with_programs}
use Rattle.part_store.specs.Standing.{LeavesUnchanged, Makes, pair_of}
use Rattle.depot_actions.specs.DepotState.{MayLeave, Migrate, Migrated}
use Rattle.depot_actions.proofs.Applying.{failed_on, nothing_more, refused_by, unchanged_by}
use Rattle.depot_actions.proofs.Commands.{ok_before}
use Rattle.depot_actions.proofs.Delivering.{some_actions, unchanged_twice}
use Rattle.depot_actions.proofs.Migrating.{may_be_migrated, migrated, none_migrated, roomless_fault, spoilt_fault}
use Rattle.depot_actions.proofs.Together.{lost_cause, lost_refusal}
use Rattle.depot_actions.proofs.depot.Depot.migrate.Goals as goal

pub returns-in_err-stored : goal.returns-in_err-stored
returns-in_err-stored g c =
    let old = c.self.inside.store in
    let new = c.programs.new.self in
    let reads = c.programs.ensures.reads in
    subst (λ h. Applies g.S.Store h new c.from_residual.result Migrate Migrated) c.self.view_is
    (failed_on g.S.Store old new c.programs.result c.map_err.result c.map_err.ensures.cases _ c.in_err-stored.was c.from_residual.result c.from_residual.ensures.1 Migrate Migrated tt tt
    c.programs.ensures.refused.which reads.unchanged
    (λ clean named. of_refusal c.map_err.result _ _ c.in_err-stored.was
    (failure_told (IsHindered Migrate) (state g.S.Store old) (state g.S.Store new) c.programs.result c.map_err.result c.map_err.ensures.cases
    (IfErr-weaker c.programs.result _ _ (λ e h is before stands. h is before stands named) (c.programs.ensures.refused.cause clean))))
    (nothing_more g.S.Store old new (MayAdd Migrate) reads.survives))

pub returns-in_err-renewed : goal.returns-in_err-renewed
returns-in_err-renewed g c =
    let old = c.self.inside.store in
    let new = c.programs.new.self in
    let reads = c.programs.ensures.reads in
    let found = ok_before c.programs.result c.map_err.result _ c.in_ok-stored.stored c.map_err.ensures.cases c.map_err.ensures.variant c.in_ok-stored.was in
    let cause = rw c.deref.ensures.value at c.in_err-renewed.ensures.cause in
    subst (λ h. Applies g.S.Store h new c.from_residual-in_err-renewed.result Migrate Migrated) c.self.view_is
    (refused_by g.S.Store old new Migrate Migrated c.from_residual-in_err-renewed.result _ c.from_residual-in_err-renewed.ensures.1 reads.unchanged
    (lost_refusal Migrate _ tt tt c.in_err-renewed.ensures.refused)
    (λ clean. lost_cause Migrate _ (state g.S.Store old) tt tt c.in_err-renewed.ensures.refused)
    (λ clean named. spoilt_fault (state g.S.Store old) (state g.S.Store new) (map pair_of c.in_ok-stored.stored.items) _ (IfOk-at_ok _ found (c.programs.ensures.answer clean)) cause)
    (nothing_more g.S.Store old new (MayAdd Migrate) reads.survives))

pub returns-then-is_empty : goal.returns-then-is_empty
returns-then-is_empty g c =
    let old = c.self.inside.store in
    let mid = c.programs.new.self in
    let items = c.in_ok-renewed.renewed.items in
    let reads = c.programs.ensures.reads in
    let found = ok_before c.programs.result c.map_err.result _ c.in_ok-stored.stored c.map_err.ensures.cases c.map_err.ensures.variant c.in_ok-stored.was in
    let are = rw c.deref.ensures.value at c.in_ok-renewed.ensures.renewed in
    let zero : length items ≡ 0 = grind (arith, common_steps) in
    subst (λ h. Applies g.S.Store h mid (Ok 0) Migrate Migrated) c.self.view_is (record {
      done = λ clean.
          let was_open = subst (λ r. OnOk r (IsTrue (state g.S.Store old).is_open)) found (reads.was_open clean) in
          none_migrated (state g.S.Store old) (state g.S.Store mid) (state g.S.Store mid) (map pair_of c.in_ok-stored.stored.items) (map pair_of items) was_open (IfOk-at_ok _ found (c.programs.ensures.answer clean))
          (reads.unchanged clean) are (reads.settled clean) (omega (arith, zero, length-map items pair_of));
      unchanged = λ clean. tt;
      which = tt;
      refused = λ clean. tt;
      cause = λ clean. tt;
      survives = nothing_more g.S.Store old mid (MayAdd Migrate) reads.survives;
    })

pub returns-in_err-map_err : goal.returns-in_err-map_err
returns-in_err-map_err g c =
    let first = c.self.inside.store in
    let last = c.replace_programs.new.self in
    let old = state g.S.Store first in
    let mid = state g.S.Store c.programs.new.self in
    let new = state g.S.Store last in
    let items = c.deref-2.result.now in
    let reads = c.programs.ensures.reads in
    let writes = c.replace_programs.ensures.writes in
    let early : HasCleanDisk new → HasCleanDisk mid = λ clean. omega (arith, clean, c.replace_programs.ensures.writes.survives.clean) in
    let found = ok_before c.programs.result c.map_err.result _ c.in_ok-stored.stored c.map_err.ensures.cases c.map_err.ensures.variant c.in_ok-stored.was in
    let are = rw (c.deref.ensures.value, ← c.deref-2.ensures.value) at c.in_ok-renewed.ensures.renewed in
    let some = some_actions (length items) _ c.is_empty.result c.is_empty.ensures c.if-is_empty.false c.deref-2.ensures.len in
    subst (λ h. Applies g.S.Store h last c.from_residual-in_err-map_err.result Migrate Migrated) c.self.view_is
    (failed_on g.S.Store first last c.replace_programs.result c.map_err-2.result c.map_err-2.ensures.cases _ c.in_err-map_err.was
    c.from_residual-in_err-map_err.result c.from_residual-in_err-map_err.ensures.1 Migrate Migrated tt tt c.replace_programs.ensures.refused.which
    (λ clean. unchanged_twice old mid new reads.survives.counts writes.survives.counts (reads.unchanged (early clean))
    (unchanged_by c.replace_programs.result c.map_err-2.result c.map_err-2.ensures.cases _ c.in_err-map_err.was (LeavesUnchanged mid new) (writes.unchanged clean)))
    (λ clean named. roomless_fault old mid new (map pair_of c.in_ok-stored.stored.items) (map pair_of items) _ (IfOk-at_ok _ found (c.programs.ensures.answer (early clean))) are (reads.unchanged (early clean)) reads.survives writes.survives clean
    (of_refusal c.map_err-2.result _ _ c.in_err-map_err.was
    (fault_told (HaveNoUserRoom (map pair_of items)) mid new c.replace_programs.result c.map_err-2.result c.map_err-2.ensures.cases (c.replace_programs.ensures.refused.cause clean))))
    (survives_then old mid new _ _ (MayLeave Migrate old) (λ clean db none. absurd none) (λ clean db may.
    let was_open = subst (λ r. OnOk r (IsTrue old.is_open)) found (reads.was_open (early clean)) in
    may_be_migrated old mid new (map pair_of c.in_ok-stored.stored.items) (map pair_of items) was_open (IfOk-at_ok _ found (c.programs.ensures.answer (early clean))) (reads.unchanged (early clean)) are db (may.0 some) may.1)
    reads.survives writes.survives))

pub returns : goal.returns
returns g c =
    let first = c.self.inside.store in
    let last = c.replace_programs.new.self in
    let old = state g.S.Store first in
    let mid = state g.S.Store c.programs.new.self in
    let new = state g.S.Store last in
    let items = c.deref-2.result.now in
    let reads = c.programs.ensures.reads in
    let writes = c.replace_programs.ensures.writes in
    let early : HasCleanDisk new → HasCleanDisk mid = λ clean. omega (arith, clean, c.replace_programs.ensures.writes.survives.clean) in
    let found = ok_before c.programs.result c.map_err.result _ c.in_ok-stored.stored c.map_err.ensures.cases c.map_err.ensures.variant c.in_ok-stored.was in
    let are = rw (c.deref.ensures.value, ← c.deref-2.ensures.value) at c.in_ok-renewed.ensures.renewed in
    let some = some_actions (length items) _ c.is_empty.result c.is_empty.ensures c.if-is_empty.false c.deref-2.ensures.len in
    let made = ok_before c.replace_programs.result c.map_err-2.result _ c.in_ok-map_err.field-0 c.map_err-2.ensures.cases c.map_err-2.ensures.variant c.in_ok-map_err.was in
    let counted : c.len.result ≡ length items = grind (arith, common_steps) in
    subst (λ h. Applies g.S.Store h last (Ok c.len.result) Migrate Migrated) c.self.view_is (record {
      done = λ clean.
          let was_open = subst (λ r. OnOk r (IsTrue old.is_open)) found (reads.was_open (early clean)) in
          let makes = subst (λ r. OnOk r (Makes (with_programs (map pair_of items)) mid new)) made (writes.made clean) in
          migrated old mid new (map pair_of c.in_ok-stored.stored.items) (map pair_of items) was_open (IfOk-at_ok _ found (c.programs.ensures.answer (early clean))) (reads.unchanged (early clean)) are c.len.result
          (omega (arith, counted, length-map items pair_of)) makes;
      unchanged = λ clean. tt;
      which = tt;
      refused = λ clean. tt;
      cause = λ clean. tt;
      survives = survives_then old mid new _ _ (MayLeave Migrate old) (λ clean db none. absurd none) (λ clean db may.
          let was_open = subst (λ r. OnOk r (IsTrue old.is_open)) found (reads.was_open (early clean)) in
          may_be_migrated old mid new (map pair_of c.in_ok-stored.stored.items) (map pair_of items) was_open (IfOk-at_ok _ found (c.programs.ensures.answer (early clean))) (reads.unchanged (early clean)) are db (may.0 some) may.1)
          reads.survives writes.survives;
    })
