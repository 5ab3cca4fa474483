use Rattle.std.proofs.Common.{◌≡◌, ℕ, ◌-◌, ◌<◌, ◌≤◌, true, length, get_or}
use Rattle.sieve_lexer.specs.Classes.{continues_identifier}
use Rattle.sieve_lexer.proofs.word.word_end.Given as goal

abbrev pub invariant-loop-end : goal.invariant-loop-end
invariant-loop-end l = (l.place ≤ l.end) × (l.end ≤ length l.script)
    × ((i : ℕ) → l.place ≤ i → i < l.end → continues_identifier (get_or l.script i 0) ≡ true)

abbrev pub decreases-loop-end : goal.decreases-loop-end
decreases-loop-end l = length l.script - l.end
