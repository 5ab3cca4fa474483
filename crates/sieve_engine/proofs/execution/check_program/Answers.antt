use Rattle.sieve_engine.specs.Execution.{Spells}
use Rattle.sieve_engine.proofs.EngineLemmas.{refused_by_verifier}
use Rattle.sieve_engine.proofs.execution.check_program.Goals as goal

pub returns-in-Err-clause-refused : goal.returns-in-Err-clause-refused
returns-in-Err-clause-refused c =
    let spells : Spells c.args.program.now c.in_ok-program.program = record { within = c.in_ok-program.ensures.found.0; spelt = c.in_ok-program.ensures.found.1 } in
    rw c.from.ensures (refused_by_verifier c.args.program.now c.in_ok-program.program spells c.in-Err.refusal c.in-Err.ensures.refused)
