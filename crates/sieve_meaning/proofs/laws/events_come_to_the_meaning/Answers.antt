use Rattle.sieve_meaning.proofs.Accounting.{forgotten}
use Rattle.sieve_meaning.proofs.laws.events_come_to_the_meaning.Goals as goal

pub returns : goal.returns
returns c = forgotten
