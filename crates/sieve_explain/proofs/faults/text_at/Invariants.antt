use Rattle.std.proofs.Common.{◌≡◌, drop, map}
use Rattle.sieve_explain.specs.Faults.{text_at}
use Rattle.sieve_explain.specs.Private.{beginning_of}
use Rattle.sieve_explain.proofs.faults.text_at.Given as goal

abbrev pub invariant-loop-octets : goal.invariant-loop-octets
invariant-loop-octets l = text_at l.rest (map beginning_of (drop l.octets-index l.rows)) ≡ text_at l.rest (map beginning_of l.rows)
