use Rattle.std.proofs.Common.{◌≡◌, ◌+◌, ◌≤◌, length}
use Rattle.glob_match.specs.Matching.{max_captures}
use Rattle.glob_match.specs.Segments.{any_places, with_stretches}
use Rattle.glob_match.specs.Tokens.{tokens_of}
use Rattle.glob_match.proofs.segment.push_any_octets.Given as goal

abbrev pub invariant-tokens : goal.invariant-tokens
invariant-tokens l = (length l.captures ≤ max_captures)
    × (l.place + length (tokens_of l.tokens) ≡ l.start + length (tokens_of l.segment))
    × (with_stretches l.captures (any_places l.place (tokens_of l.tokens)) ≡ with_stretches l.initial.captures (any_places l.start (tokens_of l.segment)))

abbrev pub decreases-tokens : goal.decreases-tokens
decreases-tokens l = length l.tokens
