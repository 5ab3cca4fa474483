use Rattle.lanes_base64_mime.proofs.Lines.{law}
use Rattle.lanes_base64_mime.proofs.laws.reads_what_was_written.Goals as goal

pub returns : goal.returns
returns c = law
