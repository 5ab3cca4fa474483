use Rattle.std.proofs.Common.{◌==◌, refl, not, false, slice_index_or, arith}
use Rattle.std.proofs.lemmas.Bool.{agree_below_at}
use Rattle.quoted_printable.specs.QuotedPrintable.{stands}
use Rattle.quoted_printable.specs.declared.encode.TheConstants.{LENGTHS}
use Rattle.quoted_printable.proofs.encode.is_escaped.Goals as goal

pub returns : goal.returns
returns c = agree_below_at (λ o. slice_index_or LENGTHS o 0 == 3) (λ o. not (stands o false)) 256 c.args.octet refl (omega arith)
