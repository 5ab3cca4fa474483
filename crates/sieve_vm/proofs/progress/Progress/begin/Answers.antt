use Rattle.std.proofs.Common.{sym, ap, subst}
use Rattle.bytecode_verifier.specs.Acceptance.{IsAccepted}
use Rattle.sieve_vm.specs.State.{start}
use Rattle.sieve_vm.specs.Standing.{Represents}
use Rattle.sieve_vm.specs.Looks.{Visits}
use Rattle.sieve_vm.proofs.Moments.{stands_first}
use Rattle.sieve_vm.proofs.progress.Progress.begin.Goals as goal

pub invariant_of-result : goal.invariant_of-result
invariant_of-result c =
    let code = c.program-program.result.now in
    let there = subst (λ mail. Represents mail (start code) c.begin.new.self) (ap (λ (v : Visits). v.mail) c.new-2.ensures) c.in_ok-begin.ensures in
    (stands_first code c.args.message.now c.start.result c.begin.new.self c.start.ensures there, tt)

pub invariant_of-result-2 : goal.invariant_of-result-2
invariant_of-result-2 c = (c.instructions-instructions.ensures.program, subst IsAccepted (sym c.program-program.ensures.value) c.program-program.ensures.accepted, c.size-size.ensures.mail)
