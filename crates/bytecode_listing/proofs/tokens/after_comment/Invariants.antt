use Rattle.std.proofs.Common.{◌≡◌, ◌≤◌, length}
use Rattle.bytecode_listing.specs.Tokens.{Comment, tokens_from}
use Rattle.bytecode_listing.proofs.tokens.after_comment.Given as goal

abbrev pub invariant-comment : goal.invariant-comment
invariant-comment l = (tokens_from Comment l.rest ≡ tokens_from Comment l.octets) × (length l.rest ≤ length l.octets)

abbrev pub decreases-comment : goal.decreases-comment
decreases-comment l = length l.rest
