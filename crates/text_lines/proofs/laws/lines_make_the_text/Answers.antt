use Rattle.text_lines.proofs.Broken.{octets_of-lines_of}
use Rattle.text_lines.proofs.laws.lines_make_the_text.Goals as goal

pub returns : goal.returns
returns c = octets_of-lines_of
