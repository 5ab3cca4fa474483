use Rattle.encodings.proofs.ReadBack.{written_is_read}
use Rattle.encodings.proofs.laws.reads_what_was_written.Goals as goal

pub returns : goal.returns
returns c = written_is_read
