use Rattle.std.proofs.Common.{arith, ap, ◌∙◌}
use Rattle.std.specs.Global.{Vec}
use Rattle.sieve_check.specs.declared.typed.Branch.{Branch}
use Rattle.sieve_check.proofs.SequenceSteps.{closed}
use Rattle.sieve_check.proofs.sequence.Sequence.close.Goals as goal

pub returns : goal.returns
returns c =
    let e = c.is_empty.ensures in
    let r = c.replace-branches.ensures in
    closed c.args.self.now _ c.replace-branches.result c.args.last c.replace-branches.ensures.value (let no = e in let f = c.if-is_empty.false in rw r.value (grind arith)) c.in_ok-push.ensures.items (ap (λ (v : Vec Branch). v.items) r.after ∙ c.new.ensures.items)
