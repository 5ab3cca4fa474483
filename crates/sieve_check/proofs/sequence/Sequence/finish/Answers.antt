use Rattle.sieve_check.proofs.SequenceSteps.{finished}
use Rattle.sieve_check.proofs.sequence.Sequence.finish.Goals as goal

pub returns : goal.returns
returns c = finished c.args.self c.close.new.self c.in_ok-close.ensures
