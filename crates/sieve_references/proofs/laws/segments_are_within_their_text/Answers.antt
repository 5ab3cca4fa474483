use Rattle.sieve_references.proofs.Extents.{together}
use Rattle.sieve_references.proofs.laws.segments_are_within_their_text.Goals as goal

pub returns : goal.returns
returns c = together
