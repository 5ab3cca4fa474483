use Rattle.bytecode_format.proofs.ActionLemmas.{first_occurrences-push}
use Rattle.bytecode_format.proofs.laws.one_more_action.Goals as goal

pub returns : goal.returns
returns c = first_occurrences-push
