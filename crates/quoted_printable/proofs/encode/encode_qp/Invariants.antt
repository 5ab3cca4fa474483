use Rattle.std.proofs.Common.{◌≡◌, ◌++◌, length}
use Rattle.quoted_printable.specs.QuotedPrintable.{encoding_of}
use Rattle.quoted_printable.proofs.encode.encode_qp.Given as goal

abbrev pub invariant-lines : goal.invariant-lines
invariant-lines l = l.out.items ++ encoding_of l.rest ≡ encoding_of l.octets

abbrev pub decreases-lines : goal.decreases-lines
decreases-lines l = length l.rest
