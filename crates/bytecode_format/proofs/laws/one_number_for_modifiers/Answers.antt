use Rattle.bytecode_format.proofs.ModifierLemmas.{number_again, number_small, number_only}
use Rattle.bytecode_format.proofs.laws.one_number_for_modifiers.Goals as goal

pub returns-clause-number : goal.returns-clause-number
returns-clause-number c = number_again

pub returns-clause-small : goal.returns-clause-small
returns-clause-small c = number_small

pub returns-clause-only : goal.returns-clause-only
returns-clause-only c = number_only
