use Rattle.std.proofs.Common.{rules}
use Rattle.devices.proofs.Outputs.{broken_at_place, next_within, on_err, taken_next}
use Rattle.devices.proofs.sink.put.Goals as goal

pub pieces-preserved : goal.pieces-preserved
pieces-preserved g c =
    let before = c.pieces.invariant in
    let step = c.in_ok-done.ensures in
    let text = c.args.octets.now in
    record {
      within = next_within text c.pieces.done c.in_ok-done.field-0 before.within step.bound;
      taken = taken_next text c.pieces.done c.in_ok-done.field-0 before.taken step.ok;
    }

pub returns-in_err-done : goal.returns-in_err-done
returns-in_err-done g c = record {
  ok = search rules;
  err = on_err c.from_residual.result (broken_at_place c.args.octets.now c.pieces.done c.pieces.invariant.taken c.in_err-done.ensures.err);
}
