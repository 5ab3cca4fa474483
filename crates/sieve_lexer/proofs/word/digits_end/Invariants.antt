use Rattle.std.proofs.Common.{◌≡◌, ℕ, ◌-◌, ◌<◌, ◌≤◌, true, length, get_or}
use Rattle.std.specs.Char.{is_ascii_digit}
use Rattle.sieve_lexer.proofs.word.digits_end.Given as goal

abbrev pub invariant-loop-end : goal.invariant-loop-end
invariant-loop-end l = (l.place ≤ l.end) × (l.end ≤ length l.script)
    × ((i : ℕ) → l.place ≤ i → i < l.end → is_ascii_digit (get_or l.script i 0) ≡ true)

abbrev pub decreases-loop-end : goal.decreases-loop-end
decreases-loop-end l = length l.script - l.end
