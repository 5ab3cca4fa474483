use Rattle.bytecode_verifier.proofs.Accepted.{memory_alone}
use Rattle.bytecode_verifier.proofs.verified.verify.Goals as goal

pub returns-in-Err-clause-only : goal.returns-in-Err-clause-only
returns-in-Err-clause-only c = λ is. memory_alone c.args.program c.in-Err.refusal is c.in-Err.ensures.refused
