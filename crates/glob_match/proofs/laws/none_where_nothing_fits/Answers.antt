use Rattle.glob_match.proofs.Least.{none_from, no_fit}
use Rattle.glob_match.proofs.laws.none_where_nothing_fits.Goals as goal

pub returns : goal.returns
returns c = λ comparator key value. (none_from comparator key value, no_fit comparator key value)
