use Rattle.bytecode_listing.proofs.Spoken.{said_again}
use Rattle.bytecode_listing.proofs.laws.words_say_their_numbers.Goals as goal

pub returns : goal.returns
returns c = said_again
