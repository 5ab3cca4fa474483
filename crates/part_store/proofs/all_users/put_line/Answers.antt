use Rattle.std.proofs.Common.{[], ◌∷◌, ◌≤◌, pos, ap, arith, inl}
use Rattle.sqlite_value.specs.declared.value.Value.TheVariants.{Int, Text}
use Rattle.sqlite.specs.Held.{state}
use Rattle.sqlite.specs.State.{HasCleanDisk}
use Rattle.octets.specs.Limits.{max_entry_number}
use Rattle.part_store.proofs.Afterwards.{undone, wrote, wrote_twice}
use Rattle.part_store.proofs.Causes.{stands_writable}
use Rattle.part_store.proofs.Entering.{stands_still}
use Rattle.part_store.proofs.Failing.{later_failed}
use Rattle.part_store.proofs.Putting.{bound_line, line_brought, line_rises, line_unplaced}
use Rattle.part_store.proofs.Runs.{passed}
use Rattle.part_store.proofs.all_users.put_line.Goals as goal

pub returns : goal.returns
returns g c =
    let fits : c.args.last ≤ max_entry_number = omega (arith, c.ranges.last.fits) in
    let old = state g.S.Store c.args.tx.now.conn.now in
    let one = state g.S.Store c.last_of.new.tx.conn.now in
    let two = state g.S.Store c.remove.new.tx.conn.now in
    let new = state g.S.Store c.add.new.tx.conn.now in
    let late = λ (clean : HasCleanDisk new). let h : HasCleanDisk two = omega (arith, clean, c.add.ensures.survives.clean) in h in
    let early = λ (clean : HasCleanDisk new). let h : HasCleanDisk one = omega (arith, late clean, c.remove.ensures.survives.clean) in h in
    let user = c.args.user.now in
    let values = ap (λ v. Text user ∷ Int (pos c.max.result) ∷ v ∷ []) (bound_line c.args.program) in
    record {
      step = λ clean. line_brought old one two new user c.in_ok-before.before c.max.result c.args.last _ _ values (c.in_ok-before.ensures.within.same (early clean))
          (λ before stands. (c.in_ok-before.ensures.answer (early clean) before stands).0) c.max.ensures (c.in_ok-remove.ensures.step (late clean)) (c.last_of.ensures.within.kept (early clean)) fits (c.in_ok-add.ensures.step clean);
      inside = λ clean. c.in_ok-add.ensures.inside clean;
      schema = λ clean has. (c.in_ok-add.ensures.step clean ((c.in_ok-remove.ensures.step (late clean) (c.in_ok-before.ensures.within.same (early clean) has).0).schema)).schema;
      cause = λ _. tt;
      rowids = λ clean. line_rises old one two new user c.in_ok-before.before c.max.result c.args.last _ _ values (c.in_ok-before.ensures.within.same (early clean))
          (λ before stands. (c.in_ok-before.ensures.answer (early clean) before stands).0) c.max.ensures (c.in_ok-remove.ensures.step (late clean)) (c.in_ok-add.ensures.step clean);
      within = wrote_twice g.S.Store c.in_ok-before.ensures.within _ c.remove.ensures c.add.ensures;
    }

pub returns-in_err-before : goal.returns-in_err-before
returns-in_err-before g c = record {
  step = λ _. undone c.from_residual.result _ _ c.from_residual.ensures.1;
  inside = λ _. undone c.from_residual.result _ _ c.from_residual.ensures.1;
  schema = λ _. undone c.from_residual.result _ _ c.from_residual.ensures.1;
  cause = λ clean. passed c.from_residual.result _ _ c.from_residual.ensures.1 (λ _ is before stands. inl (c.in_err-before.ensures.cause clean is before stands));
  rowids = λ _. undone c.from_residual.result _ _ c.from_residual.ensures.1;
  within = record {
    same_reference = c.last_of.ensures.within.same_reference;
    was_open = λ _. undone c.from_residual.result _ _ c.from_residual.ensures.1;
    stays_closed = c.last_of.ensures.within.stays_closed;
    kept = c.last_of.ensures.within.kept;
    survives = c.last_of.ensures.within.survives;
  };
}

pub returns-in_err-remove : goal.returns-in_err-remove
returns-in_err-remove g c =
    let old = state g.S.Store c.args.tx.now.conn.now in
    let one = state g.S.Store c.last_of.new.tx.conn.now in
    let new = state g.S.Store c.remove.new.tx.conn.now in
    record {
      step = λ _. undone c.from_residual-in_err-remove.result _ _ c.from_residual-in_err-remove.ensures.1;
      inside = λ _. undone c.from_residual-in_err-remove.result _ _ c.from_residual-in_err-remove.ensures.1;
      schema = λ _. undone c.from_residual-in_err-remove.result _ _ c.from_residual-in_err-remove.ensures.1;
      cause = λ clean.
          let early : HasCleanDisk one = omega (arith, clean, c.remove.ensures.survives.clean) in
          passed c.from_residual-in_err-remove.result _ _ c.from_residual-in_err-remove.ensures.1 (λ inside is before stands.
          inl (later_failed old one new c.last_of.ensures.within.survives c.remove.ensures.survives clean
          (c.in_err-remove.ensures.fault clean is (stands_writable one before (c.in_ok-before.ensures.within.inside early stands.schema inside) (stands_still old one before (c.in_ok-before.ensures.within.same early) stands)))));
      rowids = λ _. undone c.from_residual-in_err-remove.result _ _ c.from_residual-in_err-remove.ensures.1;
      within = wrote g.S.Store c.in_ok-before.ensures.within _ c.remove.ensures;
    }

pub returns-in_err-add : goal.returns-in_err-add
returns-in_err-add g c =
    let old = state g.S.Store c.args.tx.now.conn.now in
    let one = state g.S.Store c.last_of.new.tx.conn.now in
    let two = state g.S.Store c.remove.new.tx.conn.now in
    let new = state g.S.Store c.add.new.tx.conn.now in
    let user = c.args.user.now in
    record {
      step = λ _. undone c.from_residual-in_err-add.result _ _ c.from_residual-in_err-add.ensures.1;
      inside = λ _. undone c.from_residual-in_err-add.result _ _ c.from_residual-in_err-add.ensures.1;
      schema = λ _. undone c.from_residual-in_err-add.result _ _ c.from_residual-in_err-add.ensures.1;
      cause = λ clean.
          let late : HasCleanDisk two = omega (arith, clean, c.add.ensures.survives.clean) in
          let early : HasCleanDisk one = omega (arith, late, c.remove.ensures.survives.clean) in
          passed c.from_residual-in_err-add.result _ _ c.from_residual-in_err-add.ensures.1
          (line_unplaced old one two new user c.in_ok-before.before c.max.result c.args.last _ _ (ap (λ v. Text user ∷ Int (pos c.max.result) ∷ v ∷ []) (bound_line c.args.program)) (c.in_ok-before.ensures.within.same early)
          (λ before stands. (c.in_ok-before.ensures.answer early before stands).0) c.max.ensures (c.in_ok-remove.ensures.step late) _ c.last_of.ensures.within.survives c.remove.ensures.survives c.add.ensures.survives clean
          (c.in_ok-before.ensures.within.inside early) (c.in_err-add.ensures.fault clean));
      rowids = λ _. undone c.from_residual-in_err-add.result _ _ c.from_residual-in_err-add.ensures.1;
      within = wrote_twice g.S.Store c.in_ok-before.ensures.within _ c.remove.ensures c.add.ensures;
    }
