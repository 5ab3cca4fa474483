use Rattle.std.proofs.Common.{◌≡◌, ◌++◌, length}
use Rattle.quoted_printable.specs.Private.{Extends}
use Rattle.quoted_printable.specs.QuotedPrintable.{unescaped}
use Rattle.quoted_printable.proofs.decode.append_unescaped.Given as goal

abbrev pub invariant-escapes : goal.invariant-escapes
invariant-escapes l = record {
  done : l.out.items ++ unescaped l.rest ≡ l.initial.out.items ++ unescaped l.text;
  more : Extends l.initial.out.items l.out.items;
}

abbrev pub decreases-escapes : goal.decreases-escapes
decreases-escapes l = length l.rest
