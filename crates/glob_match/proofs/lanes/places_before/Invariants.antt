use Rattle.std.proofs.Common.{◌≡◌, ◌+◌, ◌≤◌, length}
use Rattle.glob_match.specs.Containment.{begins_with}
use Rattle.glob_match.specs.Segments.{NoStar, marked}
use Rattle.glob_match.specs.Tokens.{tokens_of}
use Rattle.glob_match.proofs.Marks.{every_place}
use Rattle.glob_match.proofs.lanes.places_before.Given as goal

abbrev pub invariant-tokens : goal.invariant-tokens
invariant-tokens l = (31 + length (tokens_of l.tokens) ≤ length l.octets) × NoStar (tokens_of l.tokens)
    × (length l.kept ≡ 32)
    × (marked (begins_with l.comparator (tokens_of l.segment)) every_place l.value ≡ marked (begins_with l.comparator (tokens_of l.tokens)) l.kept l.octets)

abbrev pub decreases-tokens : goal.decreases-tokens
decreases-tokens l = length l.tokens
