use Rattle.quoted_printable.proofs.Known.{plain_stands}
use Rattle.quoted_printable.proofs.decode.first_octet.Goals as goal

pub returns : goal.returns
returns c = plain_stands c.args.text.now _ c.in_ok-octet.octet.now c.in_ok-octet.ensures.cases.0 c.if-octet-eq-EQUALS.false
