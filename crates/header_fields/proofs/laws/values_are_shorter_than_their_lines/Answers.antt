use Rattle.header_fields.proofs.Lengths.{values_shorter}
use Rattle.header_fields.proofs.laws.values_are_shorter_than_their_lines.Goals as goal

pub returns : goal.returns
returns c = values_shorter
