use Rattle.sieve_parser.proofs.OneRefusal.{one_refusal}
use Rattle.sieve_parser.proofs.laws.refusals_are_unique.Goals as goal

pub returns : goal.returns
returns c = λ script e f. one_refusal c.tokens_are_unique.ensures c.fault_is_unique.ensures c.tokens_have_no_fault.ensures script e f
