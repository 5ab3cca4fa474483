use Rattle.std.proofs.Common.{arith}
use Rattle.quoted_printable.proofs.Known.{escape_stands}
use Rattle.quoted_printable.proofs.decode.after_equals.Goals as goal

pub returns : goal.returns
returns c = escape_stands c.args.text.now _ c.in_ok-octet.octet (omega (arith, c.if-text-lt2.false)) c.in_ok-octet.ensures c.split_at.ensures.back
