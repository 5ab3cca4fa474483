use Rattle.depot.proofs.Ended.{any_refusal, found_in}
use Rattle.depot.proofs.opening.OnDiskOpenerFileFrom.open.Goals as goal

pub returns : goal.returns
returns g c = record {
  found =
      found_in _ c.open_from.result c.open_from.ensures.ready c.open_from.ensures.unlimited c.open_from.ensures.found c.open_from.ensures.empty c.open_from.ensures.refused;
  refused = any_refusal c.open_from.result;
}
