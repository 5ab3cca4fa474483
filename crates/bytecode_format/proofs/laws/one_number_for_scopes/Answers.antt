use Rattle.bytecode_format.proofs.SelectionLemmas.{scope_again, scope_only}
use Rattle.bytecode_format.proofs.laws.one_number_for_scopes.Goals as goal

pub returns-clause-number : goal.returns-clause-number
returns-clause-number c = scope_again

pub returns-clause-only : goal.returns-clause-only
returns-clause-only c = scope_only
