use Rattle.std.proofs.Common.{◌≡◌, ◌++◌, map, take}
use Rattle.depot_batch.specs.Said.{comma_for}
use Rattle.depot_batch.proofs.values.put_items.Given as goal

abbrev pub invariant-octets : goal.invariant-octets
invariant-octets l = l.out.items ≡ l.initial.out.items ++ map comma_for (take l.octet-index l.items)
