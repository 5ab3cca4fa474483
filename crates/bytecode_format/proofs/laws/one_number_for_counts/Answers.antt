use Rattle.bytecode_format.proofs.SelectionLemmas.{counts_again, counts_only}
use Rattle.bytecode_format.proofs.laws.one_number_for_counts.Goals as goal

pub returns-clause-number : goal.returns-clause-number
returns-clause-number c = counts_again

pub returns-clause-only : goal.returns-clause-only
returns-clause-only c = counts_only
