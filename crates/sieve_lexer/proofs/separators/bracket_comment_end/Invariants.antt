use Rattle.std.proofs.Common.{ℕ, ◌+◌, ◌-◌, ◌<◌, ◌≤◌, length, get_or, ◌≡◌}
use Rattle.sieve_lexer.specs.Separators.{IsCommentEnd}
use Rattle.sieve_lexer.proofs.separators.bracket_comment_end.Given as goal

abbrev pub invariant-loop-close : goal.invariant-loop-close
invariant-loop-close l = (l.place + 2 ≤ l.close) × (l.close ≤ length l.script) × (get_or l.script (l.place + 1) 0 ≡ 42)
    × ((i : ℕ) → l.place + 2 ≤ i → i < l.close → IsCommentEnd l.script i → ⊥)

abbrev pub decreases-loop-close : goal.decreases-loop-close
decreases-loop-close l = length l.script - l.close
