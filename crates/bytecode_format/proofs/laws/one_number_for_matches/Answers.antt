use Rattle.bytecode_format.proofs.SelectionLemmas.{match_again, match_only}
use Rattle.bytecode_format.proofs.laws.one_number_for_matches.Goals as goal

pub returns-clause-number : goal.returns-clause-number
returns-clause-number c = match_again

pub returns-clause-only : goal.returns-clause-only
returns-clause-only c = match_only
