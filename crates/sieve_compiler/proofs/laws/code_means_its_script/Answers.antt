use Rattle.sieve_compiler.proofs.Meets.{code_means}
use Rattle.sieve_compiler.proofs.laws.code_means_its_script.Goals as goal

pub returns : goal.returns
returns c = λ script mail bounded is. code_means script bounded mail is
