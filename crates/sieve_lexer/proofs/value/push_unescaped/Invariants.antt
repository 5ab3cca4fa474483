use Rattle.std.proofs.Common.{◌≡◌, ◌++◌, length}
use Rattle.sieve_lexer.specs.Values.{unescaped}
use Rattle.sieve_lexer.proofs.value.push_unescaped.Given as goal

abbrev pub invariant-characters : goal.invariant-characters
invariant-characters l = l.value.items ++ unescaped l.rest ≡ l.initial.value.items ++ unescaped l.text

abbrev pub decreases-characters : goal.decreases-characters
decreases-characters l = length l.rest
