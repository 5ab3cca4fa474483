use Rattle.std.proofs.Common.{◌≡◌}
use Rattle.sieve_trace.specs.Places.{place_at}
use Rattle.sieve_trace.proofs.places.forward.Given as goal

abbrev pub invariant-octets : goal.invariant-octets
invariant-octets l = l.place ≡ place_at l.script l.octet
