use Rattle.std.proofs.Common.{subst}
use Rattle.depot_batch.specs.Private.{EndsSo}
use Rattle.depot_batch.proofs.LineReading.{taken_so}
use Rattle.depot_batch.proofs.reading.read_line.Goals as goal

pub returns-in-Ok-clause-taken : goal.returns-in-Ok-clause-taken
returns-in-Ok-clause-taken g c =
    taken_so c.taken_of.result c.clear.new.self.items c.read_until.new.buf.items (g.R.Read.remaining c.args.reader.now) c.clear.ensures.items
    (subst (EndsSo c.taken_of.result) c.deref.ensures.value c.taken_of.ensures)
    c.in-Ok.ensures.stops c.in-Ok.ensures.bytes
