use Rattle.std.proofs.Common.{◌∙◌, arith}
use Rattle.depot_actions.proofs.Numbering.{next_numbered, numbered_whole}
use Rattle.depot_actions.proofs.rows.set_numbers.Goals as goal

pub loop-row-preserved : goal.loop-row-preserved
loop-row-preserved c =
    let so_far = c.loop-row.invariant in
    let within = rw c.deref_mut-row-items.ensures.value at c.loop-row-test.true in
    record {
      number = omega (arith, so_far.number, c.saturating_add-number.ensures);
      rows = next_numbered c.args.first c.loop-row.row-index c.loop-row.number c.loop-row.row-items c.args.rows.now.items c.row-item.result within so_far.rows c.row-item.is so_far.number;
    }

pub returns : goal.returns
returns c = λ user drafts same room.
    let past = rw c.deref_mut-row-items.ensures.value at c.loop-row-test.false in
    numbered_whole user drafts c.args.first c.loop-row.row-index c.args.rows.now.len c.loop-row.row-items c.args.rows.now.items _ past
    (c.loop-row.auto.row-items ∙ c.deref_mut-row-items.ensures.len) c.loop-row.invariant.rows same room
