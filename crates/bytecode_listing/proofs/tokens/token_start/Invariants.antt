use Rattle.std.proofs.Common.{◌≡◌, length}
use Rattle.bytecode_listing.specs.Tokens.{tokens_of}
use Rattle.bytecode_listing.proofs.tokens.token_start.Given as goal

abbrev pub invariant-gap : goal.invariant-gap
invariant-gap l = tokens_of l.rest ≡ tokens_of l.octets

abbrev pub decreases-gap : goal.decreases-gap
decreases-gap l = length l.rest
