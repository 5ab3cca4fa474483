use Rattle.sieve_compiler.proofs.Accepted.{code_accepted}
use Rattle.sieve_compiler.proofs.laws.code_is_accepted.Goals as goal

pub returns : goal.returns
returns c = λ script bounded. code_accepted script bounded
