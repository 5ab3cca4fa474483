use Rattle.std.proofs.Common.{arith}
use Rattle.std.proofs.lemmas.Grind.{common_steps}
use Rattle.sieve_explain.proofs.explaining.first_told.Goals as goal

pub loop-found-preserved : goal.loop-found-preserved
loop-found-preserved c = grind (arith, common_steps)

pub returns : goal.returns
returns c = grind (arith, common_steps)
