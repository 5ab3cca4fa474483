use Rattle.std.proofs.Common.{sym, arith, ◌≤◌}
use Rattle.bytecode_cost.specs.Sums.{chains}
use Rattle.bytecode_cost.proofs.Chains.{turns_are}
use Rattle.bytecode_cost.proofs.Powers.{turns_one, turns_two_few, turns_three_few, power_two, power_three}
use Rattle.bytecode_cost.proofs.budget.Budget.turns.Goals as goal

pub returns-then-self-eq-BY_CHAINS-clause-few : goal.returns-then-self-eq-BY_CHAINS-clause-few
returns-then-self-eq-BY_CHAINS-clause-few c =
    let two : chains c.args.parts 2 ≤ 68719476736 = turns_two_few 2 c.args.parts c.requires in
    let three : chains c.args.parts 3 ≤ 68719476736 = turns_three_few 2 c.args.parts c.requires in
    omega (arith, c.requires, c.pairs.ensures, c.triples.ensures)

pub returns-then-self-eq-BY_CHAINS-clause-one : goal.returns-then-self-eq-BY_CHAINS-clause-one
returns-then-self-eq-BY_CHAINS-clause-one c = sym (turns_one c.args.self.now.version c.args.parts)

pub returns-else-self-eq-BY_CHAINS-clause-one : goal.returns-else-self-eq-BY_CHAINS-clause-one
returns-else-self-eq-BY_CHAINS-clause-one c = sym (turns_one c.args.self.now.version c.args.parts)

pub returns-else-self-eq-BY_CHAINS-clause-three : goal.returns-else-self-eq-BY_CHAINS-clause-three
returns-else-self-eq-BY_CHAINS-clause-three c = grind (arith, turns_are c.args.self.now.version c.args.parts 3, power_three c.args.parts)

pub returns-else-self-eq-BY_CHAINS-clause-two : goal.returns-else-self-eq-BY_CHAINS-clause-two
returns-else-self-eq-BY_CHAINS-clause-two c = grind (arith, turns_are c.args.self.now.version c.args.parts 2, power_two c.args.parts)
