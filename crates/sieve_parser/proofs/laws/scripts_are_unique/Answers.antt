use Rattle.sieve_parser.proofs.Unique.{script_unique}
use Rattle.sieve_parser.proofs.laws.scripts_are_unique.Goals as goal

pub returns : goal.returns
returns c = λ ls cs ds p q. script_unique ls cs ds p q
