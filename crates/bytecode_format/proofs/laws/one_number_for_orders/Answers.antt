use Rattle.bytecode_format.proofs.SelectionLemmas.{order_again, order_only}
use Rattle.bytecode_format.proofs.laws.one_number_for_orders.Goals as goal

pub returns-clause-number : goal.returns-clause-number
returns-clause-number c = order_again

pub returns-clause-only : goal.returns-clause-only
returns-clause-only c = order_only
