use Rattle.std.proofs.Common.{map, take, drop, ◌≡◌, ◌+◌, ◌∙◌, arith, subst}
use Rattle.std.proofs.lemmas.List.{take_all}
use Rattle.sqlite.specs.Held.{state}
use Rattle.part_store.specs.Inside.{Brings}
use Rattle.part_store.specs.UserLines.{line_of, with_users}
use Rattle.part_store.proofs.Carrying.{IsLineTooBig, users_push}
use Rattle.part_store.proofs.Replacing.{Replacing, items_refused, mapped_more, mapped_split, replaced_more}
use Rattle.part_store.proofs.Runs.{passed}
use Rattle.part_store.proofs.all_users.put_all.Goals as goal

pub loop-row-preserved : goal.loop-row-preserved
loop-row-preserved g c =
    let old = state g.S.Store c.args.tx.now.conn.now in
    let mid = state g.S.Store c.loop-row.tx.conn.now in
    let new = state g.S.Store c.put_user.new.tx.conn.now in
    let done = map line_of (take c.loop-row.row-index c.args.rows.now) in
    let line = line_of c.row-item.result in
    record {
      same_reference = c.put_user.ensures.within.same_reference ∙ c.loop-row.invariant.same_reference;
      so_far = subst (λ lines. Replacing with_users lines old new) (mapped_more line_of c.args.rows.now c.loop-row.row-index c.row-item.result c.loop-row-test.true c.row-item.is)
          (replaced_more with_users done line old mid new c.loop-row.invariant.so_far c.put_user.ensures.within.survives (users_push done line) c.in_ok-put_user.ensures.step (λ clean _ _. c.in_ok-put_user.ensures.inside clean)
          c.in_ok-put_user.ensures.schema c.in_ok-put_user.ensures.within.was_open c.put_user.ensures.within.stays_closed c.put_user.ensures.within.kept c.in_ok-put_user.ensures.rowids);
    }

pub returns-clause-step : goal.returns-clause-step
returns-clause-step g c clean =
    let rows = c.args.rows.now in
    let all : take c.loop-row.row-index rows ≡ rows = take_all c.loop-row.row-index rows (omega (arith, c.loop-row-test.false)) in
    subst (λ rs. Brings (with_users (map line_of rs)) (state g.S.Store c.args.tx.now.conn.now) (state g.S.Store c.loop-row.tx.conn.now)) all (c.loop-row.invariant.so_far.brought clean)

pub returns-in_err-put_user-clause-cause : goal.returns-in_err-put_user-clause-cause
returns-in_err-put_user-clause-cause g c clean =
    let old = state g.S.Store c.args.tx.now.conn.now in
    let mid = state g.S.Store c.loop-row.tx.conn.now in
    let new = state g.S.Store c.put_user.new.tx.conn.now in
    let rows = c.args.rows.now in
    let place = c.loop-row.row-index in
    passed c.from_residual.result _ _ c.from_residual.ensures.1
    (items_refused with_users (map line_of (take place rows)) (line_of c.row-item.result) old mid new c.loop-row.invariant.so_far c.put_user.ensures.within.survives IsLineTooBig (λ _ big. big) (map line_of (drop (place + 1) rows)) (map line_of rows) _
    (mapped_split line_of rows place c.row-item.result c.loop-row-test.true c.row-item.is) clean (c.in_err-put_user.ensures.cause clean))
