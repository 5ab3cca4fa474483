use Rattle.sieve_check.specs.Refusing.{context_of}
use Rattle.sieve_check.specs.TypedView.{commands_form}
use Rattle.sieve_check.proofs.FormSteps.{no_block_part}
use Rattle.sieve_check.proofs.forming.block_part.Goals as goal

pub returns-in-WithTests : goal.returns-in-WithTests
returns-in-WithTests c malformed =
    let w = c.in-WithTests in
    no_block_part (context_of c.args.surroundings.now) c.args.invocation.now w.field-0 w.field-1 w.field-2 (commands_form c.args.body.items) w.is
