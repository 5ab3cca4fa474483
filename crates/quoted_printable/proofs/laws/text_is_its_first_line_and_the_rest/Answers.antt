use Rattle.quoted_printable.proofs.Encoded.{first_and_rest}
use Rattle.quoted_printable.proofs.laws.text_is_its_first_line_and_the_rest.Goals as goal

pub returns : goal.returns
returns c = first_and_rest
