use Rattle.depot_words.proofs.RangeLemmas.{complete}
use Rattle.depot_words.proofs.laws.arguments_are_in_range.Goals as goal

pub returns : goal.returns
returns c = complete
