use Rattle.std.proofs.Common.{◌≡◌, ◌<◌, ◌^◌, take}
use Rattle.sieve_lexer.specs.Values.{decimal_value}
use Rattle.sieve_lexer.proofs.value.decimal_of.Given as goal

abbrev pub invariant-loop-digit : goal.invariant-loop-digit
invariant-loop-digit l = (l.value ≡ decimal_value (take l.digit-index l.digits)) × (l.value < 2 ^ 64)
