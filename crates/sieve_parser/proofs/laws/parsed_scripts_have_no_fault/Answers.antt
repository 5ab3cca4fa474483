use Rattle.sieve_parser.proofs.OneRefusal.{parsed_alone}
use Rattle.sieve_parser.proofs.laws.parsed_scripts_have_no_fault.Goals as goal

pub returns : goal.returns
returns c = λ script cs e. parsed_alone c.tokens_are_unique.ensures c.tokens_have_no_fault.ensures script cs e
