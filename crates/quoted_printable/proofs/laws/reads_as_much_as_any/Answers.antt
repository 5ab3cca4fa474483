use Rattle.quoted_printable.proofs.Pieced.{best_law}
use Rattle.quoted_printable.proofs.laws.reads_as_much_as_any.Goals as goal

pub returns : goal.returns
returns c = best_law
