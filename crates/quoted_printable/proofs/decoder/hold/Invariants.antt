use Rattle.std.proofs.Common.{◌≡◌, ◌++◌, true, length}
use Rattle.quoted_printable.specs.Pieces.{is_held}
use Rattle.quoted_printable.specs.Private.{Extends}
use Rattle.quoted_printable.proofs.decoder.hold.Given as goal

abbrev pub invariant-octets : goal.invariant-octets
invariant-octets l = record {
  held : is_held l.held.items ≡ true;
  octets : l.held.items ++ l.rest ≡ l.initial.held.items ++ l.text;
  more : Extends l.initial.held.items l.held.items;
}

abbrev pub decreases-octets : goal.decreases-octets
decreases-octets l = length l.rest
