use Rattle.sieve_references.proofs.Extents.{each}
use Rattle.sieve_references.proofs.laws.each_segment_is_within_its_text.Goals as goal

pub returns : goal.returns
returns c = each
