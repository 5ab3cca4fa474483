use Rattle.std.proofs.Common.{length}
use Rattle.glob_match.proofs.placement.has_any.Given as goal

abbrev pub decreases-tokens : goal.decreases-tokens
decreases-tokens l = length l.tokens
