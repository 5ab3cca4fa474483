use Rattle.std.proofs.Common.{refl, arith}
use Rattle.sieve_check.specs.declared.sequence.Sequence.{Sequence}
use Rattle.sieve_check.proofs.SequenceSteps.{action_added, next_added, open_if_some}
use Rattle.sieve_check.proofs.sequence.Sequence.push.Goals as goal

pub returns-in_ok-push-in-Action : goal.returns-in_ok-push-in-Action
returns-in_ok-push-in-Action c =
    let new : Sequence = record { commands = c.push.new.self; branches = c.close-in-Action.new.self.branches } in
    rw c.in-Action.is (action_added c.args.self.now c.close-in-Action.new.self new c.in-Action.command c.in_ok-close-in-Action.ensures c.in_ok-push-in-Action.ensures.items refl)

pub returns-in_ok-push-in-Next : goal.returns-in_ok-push-in-Next
returns-in_ok-push-in-Next c =
    let new : Sequence = record { commands = c.args.self.now.commands; branches = c.push-in-Next.new.self } in
    rw c.in-Next.is (next_added c.args.self.now new c.in-Next.branch refl c.in_ok-push-in-Next.ensures.items
    (open_if_some c.args.self.now.branches.items (let e = c.is_empty-is_open.ensures in let f = c.if-is_open.true in grind arith)))
