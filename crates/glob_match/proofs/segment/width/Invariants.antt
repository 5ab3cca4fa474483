use Rattle.std.proofs.Common.{◌≡◌, ◌+◌, length}
use Rattle.glob_match.specs.Tokens.{tokens_of}
use Rattle.glob_match.proofs.segment.width.Given as goal

abbrev pub invariant-tokens : goal.invariant-tokens
invariant-tokens l = l.width + length (tokens_of l.tokens) ≡ length (tokens_of l.segment)

abbrev pub decreases-tokens : goal.decreases-tokens
decreases-tokens l = length l.tokens
