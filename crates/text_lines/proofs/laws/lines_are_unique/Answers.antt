use Rattle.text_lines.proofs.Broken.{lines_of-octets_of}
use Rattle.text_lines.proofs.laws.lines_are_unique.Goals as goal

pub returns : goal.returns
returns c = lines_of-octets_of
