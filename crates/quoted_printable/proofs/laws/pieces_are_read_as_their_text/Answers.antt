use Rattle.quoted_printable.proofs.Pieced.{pieces_law}
use Rattle.quoted_printable.proofs.laws.pieces_are_read_as_their_text.Goals as goal

pub returns : goal.returns
returns c = pieces_law
