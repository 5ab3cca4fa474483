use Rattle.encodings.proofs.Pieces.{in_two}
use Rattle.encodings.proofs.laws.text_is_the_texts_of_its_pieces.Goals as goal

pub returns : goal.returns
returns c = in_two
