use Rattle.header_fields.proofs.Lengths.{lines_apart}
use Rattle.header_fields.proofs.laws.lines_of_fields_are_apart.Goals as goal

pub returns : goal.returns
returns c = lines_apart
