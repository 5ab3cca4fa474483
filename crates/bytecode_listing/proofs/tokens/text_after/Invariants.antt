use Rattle.std.proofs.Common.{◌≡◌, [], length}
use Rattle.bytecode_listing.specs.Tokens.{InText, tokens_from}
use Rattle.bytecode_listing.specs.Items.{text_at}
use Rattle.bytecode_listing.proofs.tokens.text_after.Given as goal

abbrev pub invariant-octets : goal.invariant-octets
invariant-octets l = text_at (tokens_from (InText l.left l.text.items) l.rest) ≡ text_at (tokens_from (InText l.left []) l.octets)

abbrev pub decreases-octets : goal.decreases-octets
decreases-octets l = length l.rest
