use Rattle.text_lines.proofs.Broken.{AreLines-lines_of}
use Rattle.text_lines.proofs.laws.lines_end_at_breaks.Goals as goal

pub returns : goal.returns
returns c = AreLines-lines_of
