use Rattle.sieve_vm.specs.State.{start}
use Rattle.sieve_vm.proofs.Bounds.{one_end_from}
use Rattle.sieve_vm.proofs.laws.runs_have_one_end.Goals as goal

pub returns : goal.returns
returns c = λ code mail one other p q. one_end_from code mail p.steps q.steps (start code) p.last q.last one other p.run p.halts q.run q.halts
