use Rattle.sieve_references.proofs.Stretches.{all_formed}
use Rattle.sieve_references.proofs.laws.segments_are_well_formed.Goals as goal

pub returns : goal.returns
returns c = all_formed
