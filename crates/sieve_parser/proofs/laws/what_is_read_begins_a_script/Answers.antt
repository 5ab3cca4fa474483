use Rattle.sieve_parser.proofs.Faulted.{read_is_viable}
use Rattle.sieve_parser.proofs.laws.what_is_read_begins_a_script.Goals as goal

pub returns : goal.returns
returns c = λ ls s e. read_is_viable ls s e
