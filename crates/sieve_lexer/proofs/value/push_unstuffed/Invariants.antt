use Rattle.std.proofs.Common.{◌≡◌, ◌++◌, length}
use Rattle.std.specs.List.{flat_map}
use Rattle.sieve_lexer.specs.Values.{unstuffed, lines_of}
use Rattle.sieve_lexer.proofs.Lines.{prefix}
use Rattle.sieve_lexer.proofs.value.push_unstuffed.Given as goal

abbrev pub invariant-lines : goal.invariant-lines
invariant-lines l = l.value.items ++ flat_map unstuffed (prefix (lines_of l.rest)) ≡ l.initial.value.items ++ flat_map unstuffed (prefix (lines_of l.initial.rest))

abbrev pub decreases-lines : goal.decreases-lines
decreases-lines l = length l.rest
