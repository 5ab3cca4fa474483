use Rattle.std.proofs.Common.{◌≡◌, ◌+◌, ◌++◌, length, map, take}
use Rattle.glob_match.specs.Tokens.{tokens_of}
use Rattle.glob_match.specs.declared.token.Token.TheVariants.{Literal}
use Rattle.glob_match.proofs.placement.unescape.Given as goal

abbrev pub invariant-tokens : goal.invariant-tokens
invariant-tokens l = (map Literal (take l.len l.text) ++ tokens_of l.tokens ≡ tokens_of l.segment)
    × (l.len + length (tokens_of l.tokens) ≡ length (tokens_of l.segment))

abbrev pub decreases-tokens : goal.decreases-tokens
decreases-tokens l = length l.tokens
