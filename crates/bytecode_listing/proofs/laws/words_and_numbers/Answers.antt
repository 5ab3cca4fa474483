use Rattle.bytecode_listing.proofs.Worded.{both_ways}
use Rattle.bytecode_listing.proofs.laws.words_and_numbers.Goals as goal

pub returns : goal.returns
returns c = both_ways
