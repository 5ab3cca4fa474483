use Rattle.depot.proofs.Ended.{any_refusal, seen_in}
use Rattle.depot.proofs.opening.OnDiskOpenerFileFrom.look.Goals as goal

pub returns : goal.returns
returns g c = record {
  seen =
      seen_in _ c.look_from.result c.look_from.ensures.finds c.look_from.ensures.unlimited c.look_from.ensures.found c.look_from.ensures.cause;
  refused = any_refusal c.look_from.result;
}
