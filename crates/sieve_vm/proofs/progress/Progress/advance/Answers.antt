use Rattle.std.proofs.Common.{◌≡◌, ◌+◌, suc, true, sym, subst, arith}
use Rattle.sieve_vm.specs.Going.{StandsFor}
use Rattle.sieve_vm.specs.Moment.{Moment, come_to, goes_on, turn_at}
use Rattle.sieve_vm.proofs.Moments.{counts, going_at, stands_next}
use Rattle.sieve_vm.proofs.progress.Progress.advance.Goals as goal

pub advance-requires-clause-running : goal.advance-requires-clause-running
advance-requires-clause-running c =
    let p = c.self.inside in
    let on = subst (λ (m : Moment). goes_on (turn_at m) ≡ true) (sym c.self.view_is) c.requires in
    let at = going_at p.program.now p.message.now p.steps p.turn p.machine c.self.inside.stands on in
    (at.0, at.2)

pub overflow_add-result : goal.overflow_add-result
overflow_add-result c =
    let p = c.self.inside in
    let on = subst (λ (m : Moment). goes_on (turn_at m) ≡ true) (sym c.self.view_is) c.requires in
    let at = going_at p.program.now p.message.now p.steps p.turn p.machine c.self.inside.stands on in
    let fits = counts p.program.now p.message.now p.steps at.0 c.self.invariant.0 c.self.invariant.1 c.self.invariant.2 at.1 in
    omega (arith, fits)

pub invariant_of-result : goal.invariant_of-result
invariant_of-result c =
    let p = c.self.inside in
    let on = subst (λ (m : Moment). goes_on (turn_at m) ≡ true) (sym c.self.view_is) c.requires in
    let at = going_at p.program.now p.message.now p.steps p.turn p.machine c.self.inside.stands on in
    let next = stands_next p.program.now p.message.now p.steps at.0 c.in_ok-next.next c.advance.new.self at.1 (c.in_ok-next.ensures.stands at.0 at.2) in
    let more : suc p.steps ≡ p.steps + 1 = omega arith in
    (subst (λ n. StandsFor p.message.now (come_to p.program.now p.message.now n) c.in_ok-next.next c.advance.new.self) more next, tt)
