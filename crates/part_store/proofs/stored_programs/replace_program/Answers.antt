use Rattle.std.proofs.Common.{inl, arith, rules, subst, sym}
use Rattle.std.proofs.lemmas.Result.{on_ok_weaker}
use Rattle.sqlite_trees.specs.Tree.{Trees}
use Rattle.sqlite.specs.State.{HasCleanDisk}
use Rattle.part_store.specs.Tables.{users_tree}
use Rattle.part_store.specs.Causes.{RisesFrom}
use Rattle.sqlite.specs.Held.{state}
use Rattle.part_store.proofs.Replacing.{one_refused, passed_over, replaced_one}
use Rattle.part_store.proofs.Entering.{stands_still}
use Rattle.part_store.proofs.Room.{rises_more, rises_none}
use Rattle.part_store.proofs.Runs.{err_then, passed}
use Rattle.part_store.proofs.stored_programs.replace_program.Goals as goal

pub returns-in_default : goal.returns-in_default
returns-in_default g c =
    let old = state g.S.Store c.args.tx.now.conn.now in
    let new = state g.S.Store c.read_program.new.tx.conn.now in
    let reads = c.in_ok-_before.ensures in
    record {
      step = λ clean. passed_over old new c.args.user.now c.args.program.now (rw c.in_default.is at (reads.answer clean)) (reads.within.same clean) (c.read_program.ensures.within.kept clean) (reads.still clean);
      inside = search rules;
      schema = search rules;
      cause = search rules;
      rowids = λ clean before stands. subst (λ (t : Trees). RisesFrom 1 (old.now.trees users_tree) (t users_tree)) (sym (reads.within.same clean stands.schema).1)
          (rises_more 0 1 (old.now.trees users_tree) (old.now.trees users_tree) (omega arith) (rises_none (old.now.trees users_tree)));
      within = search rules;
    }

pub returns : goal.returns
returns g c =
    let old = state g.S.Store c.args.tx.now.conn.now in
    let mid = state g.S.Store c.read_program.new.tx.conn.now in
    let new = state g.S.Store c.put_program.new.tx.conn.now in
    let early = λ (clean : HasCleanDisk new). let h : HasCleanDisk mid = omega (arith, clean, c.put_program.ensures.within.survives.clean) in h in
    let reads = c.in_ok-_before.ensures in
    record {
      step = λ clean. on_ok_weaker c.put_program.result (replaced_one old mid new c.args.user.now c.args.program.now _ (rw c.in-Some.is at (reads.answer (early clean))) (reads.within.same (early clean))
          (c.read_program.ensures.within.kept (early clean)) (reads.still (early clean))) (c.put_program.ensures.step clean);
      inside = search rules;
      schema = search rules;
      cause = λ clean. err_then c.put_program.result _ _ (λ e. one_refused old mid new c.args.user.now c.args.program.now e (reads.within.same (early clean)) c.read_program.ensures.within.survives c.put_program.ensures.within.survives clean
          (reads.within.inside (early clean))) (c.put_program.ensures.cause clean);
      rowids = λ clean.
          let stays = reads.within.same (early clean) in
          on_ok_weaker c.put_program.result (λ rises before stands. subst (λ (t : Trees). RisesFrom 1 (t users_tree) (new.now.trees users_tree)) (stays stands.schema).1 (rises before (stands_still old mid before stays stands)))
          (c.put_program.ensures.rowids clean);
      within = search rules;
    }

pub returns-in_err-_before : goal.returns-in_err-_before
returns-in_err-_before g c = record {
  step = search rules;
  inside = search rules;
  schema = search rules;
  cause = λ clean. passed c.from_residual.result _ _ c.from_residual.ensures.1 (λ _ is before stands. inl (c.in_err-_before.ensures.cause clean is before stands));
  rowids = search rules;
  within = search rules;
}
