use Rattle.std.proofs.Common.{◌≡◌, false, sym, subst}
use Rattle.sieve_vm.specs.Ending.{IsOutcome}
use Rattle.sieve_vm.specs.Moment.{Moment, goes_on, turn_at}
use Rattle.sieve_vm.proofs.Moments.{over_at}
use Rattle.sieve_vm.proofs.Steps.{outcome_of}
use Rattle.sieve_vm.proofs.progress.Progress.into_outcome.Goals as goal

pub returns : goal.returns
returns c =
    let p = c.self.inside in
    let over = subst (λ (m : Moment). goes_on (turn_at m) ≡ false) (sym c.self.view_is) c.requires in
    let at = over_at p.program.now p.message.now p.steps p.turn p.machine c.self.inside.stands over in
    subst (λ (m : Moment). IsOutcome m.code m.mail c.in_ok-into_final.field-0.items p.turn.position.charged) c.self.view_is
    (outcome_of p.program.now p.message.now at.0 p.turn.position p.machine c.in_ok-into_final.field-0.items at.1 at.2 c.in_ok-into_final.ensures)
