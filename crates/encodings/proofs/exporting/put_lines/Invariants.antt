use Rattle.std.proofs.Common.{length}
use Rattle.encodings.specs.Texts.{text_of}
use Rattle.encodings.specs.declared.encoding.Encoding.TheVariants.{Qp}
use Rattle.devices.proofs.Outputs.{Leaves}
use Rattle.encodings.proofs.exporting.put_lines.Given as goal

abbrev pub invariant-lines : goal.invariant-lines
invariant-lines g l = Leaves (text_of Qp l.octets) (text_of Qp l.rest) (g.W.Sink.output l.initial.writer) (g.W.Sink.output l.writer)

abbrev pub decreases-lines : goal.decreases-lines
decreases-lines g l = length l.rest
