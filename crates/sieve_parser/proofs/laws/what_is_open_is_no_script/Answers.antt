use Rattle.sieve_parser.proofs.Faulted.{open_is_no_script}
use Rattle.sieve_parser.proofs.laws.what_is_open_is_no_script.Goals as goal

pub returns : goal.returns
returns c = λ ls s cs e done script. open_is_no_script ls s e done cs script
