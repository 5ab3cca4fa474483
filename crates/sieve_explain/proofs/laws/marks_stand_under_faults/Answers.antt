use Rattle.sieve_explain.proofs.Marking.{all_marked}
use Rattle.sieve_explain.proofs.laws.marks_stand_under_faults.Goals as goal

pub returns : goal.returns
returns c = λ script tokens commands. all_marked c.tokens_are_unique.ensures script tokens commands
