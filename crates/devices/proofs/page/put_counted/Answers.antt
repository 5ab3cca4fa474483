use Rattle.devices.proofs.Outputs.{next_within, taken_next}
use Rattle.devices.proofs.page.put_counted.Goals as goal

pub pieces-preserved : goal.pieces-preserved
pieces-preserved g c =
    let before = c.pieces.invariant in
    let step = c.in-Ok.ensures in
    let text = c.args.octets.now in
    record {
      within = next_within text c.pieces.done c.in-Ok.n before.within step.bound;
      taken = taken_next text c.pieces.done c.in-Ok.n before.taken step.ok;
    }
