use Rattle.glob_match.proofs.Texts.{contains_from, contains_since}
use Rattle.glob_match.proofs.laws.contains_means_a_stretch.Goals as goal

pub returns : goal.returns
returns c = λ comparator value key. (contains_from comparator value key, contains_since comparator value key)
