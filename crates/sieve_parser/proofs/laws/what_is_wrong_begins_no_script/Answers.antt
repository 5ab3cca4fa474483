use Rattle.sieve_parser.proofs.Faulted.{wrong_is_not_viable}
use Rattle.sieve_parser.proofs.laws.what_is_wrong_begins_no_script.Goals as goal

pub returns : goal.returns
returns c = λ ls l s e bad v. wrong_is_not_viable ls l s e bad v
