use Rattle.std.proofs.Common.{ap, ◌∙◌, arith}
use Rattle.bytecode_cost.specs.Sums.{budget_at}
use Rattle.bytecode_verifier.proofs.Numbers.{times_are, times_small}
use Rattle.bytecode_verifier.proofs.counting.times_of.Goals as goal

pub returns-clause-small : goal.returns-clause-small
returns-clause-small c =
    let times = c.at.ensures ∙ ap (λ sums. budget_at sums 0 c.args.parts) c.in_ok-numbers_of.ensures.numbers ∙ times_are c.args.counted c.args.program.now c.args.parts in
    omega (arith, times, times_small c.args.counted c.args.program.now c.in_ok-numbers_of.ensures.program c.args.parts c.requires)
