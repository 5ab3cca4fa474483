use Rattle.quoted_printable.proofs.Lengths.{no_longer}
use Rattle.quoted_printable.proofs.laws.decoding_is_no_longer_than_the_text.Goals as goal

pub returns : goal.returns
returns c = no_longer
