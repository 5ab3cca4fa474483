use Rattle.std.proofs.Common.{sym}
use Rattle.sieve_trace.proofs.PlaceLemmas.{first_place}
use Rattle.sieve_trace.proofs.places.moved.Goals as goal

pub forward-requires-else-from-to-clause-from : goal.forward-requires-else-from-to-clause-from
forward-requires-else-from-to-clause-from c = sym (first_place c.args.script.now)
