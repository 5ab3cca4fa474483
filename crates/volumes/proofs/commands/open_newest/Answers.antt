use Rattle.std.proofs.Common.{◌≡◌, ◌+◌, ◌-◌, ◌∙◌, arith}
use Rattle.volumes.proofs.Applied.{keeps_self}
use Rattle.volumes.proofs.commands.open_newest.Goals as goal

pub returns-then-count-eq0-clause-keeps : goal.returns-then-count-eq0-clause-keeps
returns-then-count-eq0-clause-keeps g c = keeps_self g.V.Volumes.holding c.args.volumes.now

pub returns-clause-opened : goal.returns-clause-opened
returns-clause-opened g c =
    let total : c.count-count.result ≡ (c.count-count.result - 1) + 1 = grind arith in
    record { opened = c.in_ok-depot.ensures.opened; newest = λ vs holds. c.count-count.ensures vs holds ∙ total }
