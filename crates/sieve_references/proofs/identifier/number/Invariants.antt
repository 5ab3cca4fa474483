use Rattle.std.proofs.Common.{drop}
use Rattle.sieve_references.proofs.Numbers.{IsReading}
use Rattle.sieve_references.proofs.identifier.number.Given as goal

-- what is left to read gives what was asked for
abbrev pub invariant-loop-octet : goal.invariant-loop-octet
invariant-loop-octet l = IsReading l.word l.value (drop l.octet-index l.word)
