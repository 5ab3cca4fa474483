use Rattle.bytecode_format.proofs.ActionLemmas.{same_where_equal}
use Rattle.bytecode_format.proofs.laws.same_actions_are_equal.Goals as goal

pub returns : goal.returns
returns c = same_where_equal
