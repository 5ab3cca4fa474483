use Rattle.sieve_compiler.proofs.AimingLemmas.{one_set}
use Rattle.sieve_compiler.proofs.coder.Coder.set_target.Goals as goal

pub returns-clause-code : goal.returns-clause-code
returns-clause-code c = λ before after one same at.
    one_set c.args.self.now.instructions.items before after one c.index_mut.result.now c.args.place c.args.target same at c.index_mut.ensures.value
