use Rattle.encodings.proofs.ReadBack.{at_most_one}
use Rattle.encodings.proofs.laws.reads_at_most_one.Goals as goal

pub returns : goal.returns
returns c = at_most_one
