use Rattle.sieve_check.proofs.Named.{test_called}
use Rattle.sieve_check.proofs.laws.questions_are_called_as_their_tests.Goals as goal

pub returns : goal.returns
returns c = test_called
