use Rattle.depot_actions.proofs.NoCause.{entry_there, numbers_suffice}
use Rattle.depot_actions.proofs.laws.accepted_commands_have_no_cause.Goals as goal

pub returns-clause-entry : goal.returns-clause-entry
returns-clause-entry c = entry_there

pub returns-clause-numbers : goal.returns-clause-numbers
returns-clause-numbers c = numbers_suffice
