use Rattle.header_fields.proofs.Lengths.{values_fit}
use Rattle.header_fields.proofs.laws.values_fit_into_the_header.Goals as goal

pub returns : goal.returns
returns c = values_fit
