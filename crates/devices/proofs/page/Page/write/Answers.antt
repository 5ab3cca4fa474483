use Rattle.devices.proofs.Outputs.{next_within}
use Rattle.devices.proofs.PageLemmas.{wrote_next}
use Rattle.devices.proofs.page.Page.write.Goals as goal

pub pieces-preserved : goal.pieces-preserved
pieces-preserved g c =
    let text = c.args.octets.now in
    let step = c.write_some-done.ensures in
    let before = c.pieces.invariant in (
      next_within text c.pieces.done c.write_some-done.result before.0 step.bound,
      wrote_next text c.pieces.done c.write_some-done.result _ _ _ before.1 step.wrote,
    )
