use Rattle.bytecode_format.proofs.SelectionLemmas.{field_test_again, field_test_small, field_test_only}
use Rattle.bytecode_format.proofs.laws.one_number_for_field_tests.Goals as goal

pub returns-clause-number : goal.returns-clause-number
returns-clause-number c = field_test_again

pub returns-clause-small : goal.returns-clause-small
returns-clause-small c = field_test_small

pub returns-clause-only : goal.returns-clause-only
returns-clause-only c = field_test_only
