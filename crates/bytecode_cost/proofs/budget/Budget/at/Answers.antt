use Rattle.std.proofs.Common.{refl}
use Rattle.bytecode_cost.proofs.Powers.{turns_none}
use Rattle.bytecode_cost.proofs.budget.Budget.at.Goals as goal

pub returns : goal.returns
returns c =
    let turns = c.turns-one.ensures in
    rw (c.term.ensures.value, c.term-2.ensures.value, c.term-3.ensures.value, c.term-4.ensures.value, turns.one, turns.two, turns.three, turns_none c.args.self.now.version c.args.p) refl
