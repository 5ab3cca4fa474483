use Rattle.std.proofs.Common.{refl}
use Rattle.sieve_meaning.specs.Watched.{occurrence_of}
use Rattle.sieve_trace.proofs.Shown.{told_next}
use Rattle.sieve_trace.proofs.printer.PrinterWatching.tell.Goals as goal

pub returns : goal.returns
returns g c = λ what is start before printed.
    told_next _ c.put_line.result before c.args.at c.args.part what (occurrence_of c.args.what) is refl c.put_line.ensures.sheet printed c.put_line.ensures.put.ok c.put_line.ensures.put.err
