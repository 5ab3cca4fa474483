use Rattle.std.proofs.Common.{◌≤◌, arith}
use Rattle.octets.specs.Limits.{max_entry_number}
use Rattle.sqlite.specs.Held.{state}
use Rattle.part_store.specs.Entries.{with_last}
use Rattle.part_store.proofs.Numbers.{number_added, number_renewed}
use Rattle.part_store.proofs.Room.{first_values, row_unadded, row_unrenewed}
use Rattle.part_store.proofs.Runs.{passed}
use Rattle.part_store.proofs.adding.claim.Goals as goal

pub returns-in_ok-renew-clause-claimed : goal.returns-in_ok-renew-clause-claimed
returns-in_ok-renew-clause-claimed g c clean before stands known =
    let fits : c.args.last ≤ max_entry_number = omega (arith, c.ranges.last.fits) in
    number_renewed (state g.S.Store c.args.tx.now.conn.now) (state g.S.Store c.renew.new.tx.conn.now) c.args.user.now c.args.last fits (c.in_ok-renew.ensures.step clean) before stands
    (rw c.if-is_known.true at known)

pub returns-in_ok-add-clause-claimed : goal.returns-in_ok-add-clause-claimed
returns-in_ok-add-clause-claimed g c clean before stands known =
    let fits : c.args.last ≤ max_entry_number = omega (arith, c.ranges.last.fits) in
    number_added (state g.S.Store c.args.tx.now.conn.now) (state g.S.Store c.add.new.tx.conn.now) c.args.user.now c.args.last fits (c.in_ok-add.ensures.step clean) before stands
    (rw c.if-is_known.false at known)

pub returns-in_err-renew-clause-cause : goal.returns-in_err-renew-clause-cause
returns-in_err-renew-clause-cause g c clean =
    passed c.from_residual.result _ _ c.from_residual.ensures.1 (λ is inside before stands known.
    row_unrenewed (state g.S.Store c.args.tx.now.conn.now) (state g.S.Store c.renew.new.tx.conn.now) c.args.user.now c.args.last _ is inside before stands (rw c.if-is_known.true at known) (c.in_err-renew.ensures.fault clean))

pub returns-in_err-add-clause-cause : goal.returns-in_err-add-clause-cause
returns-in_err-add-clause-cause g c clean =
    let user = c.args.user.now in
    passed c.from_residual-in_err-add.result _ _ c.from_residual-in_err-add.ensures.1 (λ is inside before stands known.
    let none = rw c.if-is_known.false at known in
    row_unadded (state g.S.Store c.args.tx.now.conn.now) (state g.S.Store c.add.new.tx.conn.now) user _ is inside before stands _ (with_last user c.args.last before)
    (first_values user c.args.last before (stands.tables.strangers user none).1) none (c.in_err-add.ensures.fault clean))
