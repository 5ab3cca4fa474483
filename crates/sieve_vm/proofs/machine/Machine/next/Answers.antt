use Rattle.std.proofs.Common.{◌≡◌, ◌+◌, sym, subst, refl, ◌∙◌, arith}
use Rattle.sieve_vm.specs.declared.machine.Done.{Done}
use Rattle.sieve_vm.specs.Machine.{next_part}
use Rattle.sieve_vm.specs.Visits.{Continues}
use Rattle.sieve_vm.specs.Standing.{GoesFrom}
use Rattle.sieve_vm.proofs.Tests.{next_closes, next_continues, continues_each}
use Rattle.sieve_vm.proofs.machine.Machine.next.Goals as goal

pub overflow_add-each : goal.overflow_add-each
overflow_add-each c =
    let frame = c.requires.0 in
    let frames = c.requires.1.0 in
    let old = c.args.self.now.loops in
    let goes = subst (λ o. Continues frame frames frame.rest o old c.next_part.new.self) c.in-Some.is (c.next_part.ensures.continues frame frames c.requires.1.1.0) in
    omega (arith, c.requires.1.1.1, continues_each frame frames frame.rest c.in-Some.each old c.next_part.new.self goes)

pub returns-in-Some-clause-done : goal.returns-in-Some-clause-done
returns-in-Some-clause-done c = λ mail s frame frames stands e.
    let m = c.args.self.now in
    let goes = subst (λ o. Continues frame frames frame.rest o m.loops c.next_part.new.self) c.in-Some.is (c.next_part.ensures.continues frame frames (stands.frames ∙ e)) in
    subst (λ (done : Done). GoesFrom mail (next_part frame frames frame.rest s) done.flow (record m { loops = c.next_part.new.self }) × (1 + done.cost ≡ 1)) (sym c.once.ensures)
    (next_continues mail s m stands frame frames frame.rest c.in-Some.each c.next_part.new.self goes, refl)

pub returns-in-None-clause-done : goal.returns-in-None-clause-done
returns-in-None-clause-done c = λ mail s frame frames stands e.
    let m = c.args.self.now in
    let goes = subst (λ o. Continues frame frames frame.rest o m.loops c.next_part.new.self) c.in-None.is (c.next_part.ensures.continues frame frames (stands.frames ∙ e)) in
    subst (λ (done : Done). GoesFrom mail (next_part frame frames frame.rest s) done.flow (record m { loops = c.next_part.new.self }) × (1 + done.cost ≡ 1)) (sym c.once-in-None.ensures)
    (next_closes mail s m stands frame frames frame.rest c.next_part.new.self goes, refl)

pub returns-in-Some-clause-visits : goal.returns-in-Some-clause-visits
returns-in-Some-clause-visits c = λ frame frames e. (_, c.next_part.ensures.continues frame frames e)

pub returns-in-None-clause-visits : goal.returns-in-None-clause-visits
returns-in-None-clause-visits c = λ frame frames e. (_, c.next_part.ensures.continues frame frames e)
