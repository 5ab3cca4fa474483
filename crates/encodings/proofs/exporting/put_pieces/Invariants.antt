use Rattle.std.proofs.Common.{length}
use Rattle.devices.proofs.Outputs.{Leaves}
use Rattle.encodings.proofs.exporting.put_pieces.Given as goal

abbrev pub invariant-pieces : goal.invariant-pieces
invariant-pieces g l = Leaves l.octets l.rest (g.W.Sink.output l.initial.writer) (g.W.Sink.output l.writer)

abbrev pub decreases-pieces : goal.decreases-pieces
decreases-pieces g l = length l.rest
