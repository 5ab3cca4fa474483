use Rattle.bytecode_verifier.proofs.Ends.{end_last}
use Rattle.bytecode_verifier.proofs.verified.missing_end.Goals as goal

pub returns-in-len1-up : goal.returns-in-len1-up
returns-in-len1-up c =
    end_last c.args.program.now c.instructions.result.now _ c.of.result c.is_halt.result c.then_some.result
    c.instructions.ensures.value c.in-len1-up.len_at_least c.of.ensures c.is_halt.ensures c.then_some.ensures
