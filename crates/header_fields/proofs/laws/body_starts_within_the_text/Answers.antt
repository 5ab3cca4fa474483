use Rattle.header_fields.proofs.Lengths.{body_start_within}
use Rattle.header_fields.proofs.laws.body_starts_within_the_text.Goals as goal

pub returns : goal.returns
returns c = body_start_within
