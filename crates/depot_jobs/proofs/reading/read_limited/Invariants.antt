use Rattle.std.proofs.Common.{◌+◌, ◌-◌, ◌≤◌, take, vec_len}
use Rattle.devices.specs.Supply.{HasGiven}
use Rattle.depot_jobs.proofs.reading.read_limited.Given as goal

abbrev pub invariant-pieces : goal.invariant-pieces
invariant-pieces g l =
    record {
      more : l.filled ≤ l.limit;
      filled : l.filled ≤ vec_len l.octets;
      small : vec_len l.octets ≤ l.limit + 1;
      given : HasGiven (take l.filled l.octets.items) (g.R.Source.supply l.initial.source) (g.R.Source.supply l.source);
    }

abbrev pub decreases-pieces : goal.decreases-pieces
decreases-pieces g l = l.limit + 1 - l.filled
