use Rattle.glob_match.proofs.Texts.{equal_from, equal_since}
use Rattle.glob_match.proofs.laws.is_means_equal.Goals as goal

pub returns : goal.returns
returns c = λ comparator value key. (equal_from comparator value key, equal_since comparator value key)
