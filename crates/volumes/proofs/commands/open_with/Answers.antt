use Rattle.std.proofs.Common.{◌≡◌, ◌+◌, ◌-◌, subst, arith}
use Rattle.volumes.specs.Applying.{IsSoughtPlace}
use Rattle.volumes.proofs.Applied.{for_any_error, keeps_self, keeps_then}
use Rattle.volumes.proofs.Sought.{few_first, opened_for}
use Rattle.volumes.proofs.commands.open_with.Goals as goal

pub returns-then-count-eq0-clause-keeps : goal.returns-then-count-eq0-clause-keeps
returns-then-count-eq0-clause-keeps g c = keeps_self g.V.Volumes.holding c.args.volumes.now

pub returns-then-count-eq0-clause-few : goal.returns-then-count-eq0-clause-few
returns-then-count-eq0-clause-few g c = λ vs holds some. absurd (grind (arith, c.count-count.ensures vs holds))

pub returns-in_err-place-clause-few : goal.returns-in_err-place-clause-few
returns-in_err-place-clause-few g c =
    let total : c.count-count.result ≡ (c.count-count.result - 1) + 1 = grind arith in
    few_first g.V.Volumes.holding c.args.volumes.now c.place_of.new.volumes c.place_of.new.volumes (c.count-count.result - 1) c.count-count.result total c.count-count.ensures c.place_of.ensures.few (omega arith)

pub returns-in_err-depot-clause-keeps : goal.returns-in_err-depot-clause-keeps
returns-in_err-depot-clause-keeps g c =
    for_any_error c.from_residual-in_err-depot.result (keeps_then g.V.Volumes.holding c.args.volumes.now c.place_of.new.volumes c.open.new.self c.place_of.ensures.keeps c.in_err-depot.ensures.keeps)

pub returns-in_err-depot-clause-few : goal.returns-in_err-depot-clause-few
returns-in_err-depot-clause-few g c =
    let total : c.count-count.result ≡ (c.count-count.result - 1) + 1 = grind arith in
    few_first g.V.Volumes.holding c.args.volumes.now c.place_of.new.volumes c.open.new.self (c.count-count.result - 1) c.count-count.result total c.count-count.ensures c.place_of.ensures.few c.open.ensures.counted

pub returns-clause-opened : goal.returns-clause-opened
returns-clause-opened g c =
    let total : c.count-count.result ≡ (c.count-count.result - 1) + 1 = grind arith in
    opened_for g.S.Store g.V.Volumes.holding c.args.user.now c.args.number (c.count-count.result - 1) c.count-count.result c.in_ok-place.place c.args.volumes.now c.place_of.new.volumes c.open.new.self c.in_ok-depot.depot total c.count-count.ensures
    (subst (λ n. IsSoughtPlace g.V.Volumes.holding c.args.volumes.now c.place_of.new.volumes c.args.user.now n (c.count-count.result - 1) c.in_ok-place.place) c.from.ensures c.in_ok-place.ensures.place)
    c.place_of.ensures.keeps c.in_ok-depot.ensures.opened

pub returns-clause-few : goal.returns-clause-few
returns-clause-few g c =
    let total : c.count-count.result ≡ (c.count-count.result - 1) + 1 = grind arith in
    few_first g.V.Volumes.holding c.args.volumes.now c.place_of.new.volumes c.open.new.self (c.count-count.result - 1) c.count-count.result total c.count-count.ensures c.place_of.ensures.few c.open.ensures.counted
