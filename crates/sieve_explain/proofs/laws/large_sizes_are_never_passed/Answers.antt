use Rattle.sieve_explain.proofs.Never.{large_never}
use Rattle.sieve_explain.proofs.laws.large_sizes_are_never_passed.Goals as goal

pub returns : goal.returns
returns c = λ message number few e. large_never message number few e
