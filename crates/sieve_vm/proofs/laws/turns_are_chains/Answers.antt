use Rattle.std.proofs.Common.{sym}
use Rattle.sieve_vm.proofs.Bounds.{reached}
use Rattle.sieve_vm.proofs.Chained.{are_chained}
use Rattle.sieve_vm.proofs.Opened.{open-length}
use Rattle.sieve_vm.proofs.laws.turns_are_chains.Goals as goal

pub returns-clause-chain : goal.returns-clause-chain
returns-clause-chain c = λ code mail n s r. are_chained mail s.frames _ (reached code mail r.accepted r.known n s r.run).opened

pub returns-clause-depth : goal.returns-clause-depth
returns-clause-depth c = λ code mail n s r. sym (open-length mail s.frames _ (reached code mail r.accepted r.known n s r.run).opened)
