use Rattle.header_fields.proofs.Alone.{header_alone}
use Rattle.header_fields.proofs.laws.header_stands_alone.Goals as goal

pub returns : goal.returns
returns c = header_alone
