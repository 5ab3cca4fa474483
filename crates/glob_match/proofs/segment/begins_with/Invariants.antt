use Rattle.std.proofs.Common.{◌≡◌, length}
use Rattle.glob_match.specs.Containment.{begins_with}
use Rattle.glob_match.specs.Tokens.{tokens_of}
use Rattle.glob_match.proofs.segment.begins_with.Given as goal

abbrev pub invariant-tokens : goal.invariant-tokens
invariant-tokens l = begins_with l.comparator (tokens_of l.tokens) l.octets ≡ begins_with l.comparator (tokens_of l.segment) l.value

abbrev pub decreases-tokens : goal.decreases-tokens
decreases-tokens l = length l.tokens
