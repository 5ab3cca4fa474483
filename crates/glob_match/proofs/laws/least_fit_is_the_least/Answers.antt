use Rattle.glob_match.proofs.Least.{least_from, some_least}
use Rattle.glob_match.proofs.laws.least_fit_is_the_least.Goals as goal

pub returns : goal.returns
returns c = λ comparator key value stretches. (least_from comparator key value stretches, some_least comparator key value stretches)
