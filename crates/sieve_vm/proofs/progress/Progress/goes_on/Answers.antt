use Rattle.std.proofs.Common.{◌<◌, sym, ◌∙◌, subst, arith}
use Rattle.sieve_vm.specs.Moment.{Moment, come_to}
use Rattle.sieve_vm.specs.Potential.{limit_of}
use Rattle.sieve_vm.proofs.Moments.{going_at, stands_as, steps_within}
use Rattle.sieve_vm.proofs.progress.Progress.goes_on.Goals as goal

pub returns-clause-within : goal.returns-clause-within
returns-clause-within c = λ on.
    let p = c.self.inside in
    let same = stands_as p.message.now (come_to p.program.now p.message.now p.steps) p.turn p.machine c.self.inside.stands in
    let at = going_at p.program.now p.message.now p.steps p.turn p.machine c.self.inside.stands (sym same ∙ on) in
    let below = steps_within p.program.now p.message.now c.self.invariant.1 c.self.invariant.2 p.steps at.0 at.1 in
    subst (λ (m : Moment). m.steps < limit_of m.code m.mail) c.self.view_is (omega (arith, below))
