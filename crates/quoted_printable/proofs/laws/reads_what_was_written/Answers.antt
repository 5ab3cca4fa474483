use Rattle.quoted_printable.proofs.ReadBack.{law}
use Rattle.quoted_printable.proofs.laws.reads_what_was_written.Goals as goal

pub returns : goal.returns
returns c = law
