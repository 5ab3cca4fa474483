use Rattle.std.proofs.Common.{◌-◌, ◌≤◌, length, take}
use Rattle.devices.specs.Device.{HasTaken}
use Rattle.devices.proofs.sink.put.Given as goal

abbrev pub invariant-pieces : goal.invariant-pieces
invariant-pieces g l =
    record {
      within : l.done ≤ length l.octets;
      taken : HasTaken (take l.done l.octets) (g.W.Sink.output l.initial.writer) (g.W.Sink.output l.writer);
    }

abbrev pub decreases-pieces : goal.decreases-pieces
decreases-pieces g l = length l.octets - l.done
