use Rattle.std.proofs.Common.{suc, sym, ap, subst, ◌∙◌, arith}
use Rattle.bytecode_verifier.specs.Acceptance.{IsAccepted}
use Rattle.sieve_vm.specs.Ending.{IsOutcome}
use Rattle.sieve_vm.specs.Moment.{come_to}
use Rattle.sieve_vm.specs.State.{start}
use Rattle.sieve_vm.specs.Standing.{Represents}
use Rattle.sieve_vm.specs.Looks.{Visits}
use Rattle.sieve_vm.proofs.Moments.{stands_first, stands_as, stands_next, going_at, over_at}
use Rattle.sieve_vm.proofs.Steps.{charged_on, outcome_of}
use Rattle.sieve_vm.proofs.outcome.run.Goals as goal

pub steps-init : goal.steps-init
steps-init c =
    let code = c.program-program.result.now in
    let there = subst (λ mail. Represents mail (start code) c.begin.new.self) (ap (λ (v : Visits). v.mail) c.new-2.ensures) c.in_ok-begin.ensures in
    (0, stands_first code c.args.message.now c.start-turn.result c.begin.new.self c.start-turn.ensures there)

pub advance-requires-clause-running : goal.advance-requires-clause-running
advance-requires-clause-running c =
    let code = c.program-program.result.now in
    let mail = c.args.message.now in
    let n = c.steps.invariant.0 in
    let on = sym (stands_as mail (come_to code mail n) c.steps.turn c.steps.machine c.steps.invariant.1) ∙ c.steps-test.true in
    let at = going_at code mail n c.steps.turn c.steps.machine c.steps.invariant.1 on in
    (at.0, at.2)

pub steps-preserved : goal.steps-preserved
steps-preserved c =
    let code = c.program-program.result.now in
    let mail = c.args.message.now in
    let n = c.steps.invariant.0 in
    let on = sym (stands_as mail (come_to code mail n) c.steps.turn c.steps.machine c.steps.invariant.1) ∙ c.steps-test.true in
    let at = going_at code mail n c.steps.turn c.steps.machine c.steps.invariant.1 on in
    (suc n, stands_next code mail n at.0 _ c.advance.new.self at.1 (c.in_ok-turn.ensures.stands at.0 at.2))

pub steps-smaller : goal.steps-smaller
steps-smaller c =
    let code = c.program-program.result.now in
    let mail = c.args.message.now in
    let n = c.steps.invariant.0 in
    let on = sym (stands_as mail (come_to code mail n) c.steps.turn c.steps.machine c.steps.invariant.1) ∙ c.steps-test.true in
    let at = going_at code mail n c.steps.turn c.steps.machine c.steps.invariant.1 on in
    let is = subst IsAccepted (sym c.program-program.ensures.value) c.program-program.ensures.accepted in
    let charged = charged_on code mail is c.size-size.ensures.mail c.steps.turn.position c.steps.machine at.0 at.2 _ c.advance.new.self (c.in_ok-turn.ensures.stands at.0 at.2) in
    omega (arith, charged.0, charged.1)

pub returns : goal.returns
returns c =
    let code = c.program-program.result.now in
    let mail = c.args.message.now in
    let n = c.steps.invariant.0 in
    let over = sym (stands_as mail (come_to code mail n) c.steps.turn c.steps.machine c.steps.invariant.1) ∙ c.steps-test.false in
    let at = over_at code mail n c.steps.turn c.steps.machine c.steps.invariant.1 over in
    subst (λ x. IsOutcome x mail c.in_ok-into_final.field-0.items c.steps.turn.position.charged) c.program-program.ensures.value
    (outcome_of code mail at.0 c.steps.turn.position c.steps.machine c.in_ok-into_final.field-0.items at.1 at.2 c.in_ok-into_final.ensures)
