use Rattle.bytecode_verifier.proofs.Accepted.{accepted_from_none, none_from_accepted}
use Rattle.bytecode_verifier.proofs.laws.accepted_or_refused.Goals as goal

pub returns : goal.returns
returns c = λ code. (accepted_from_none code, none_from_accepted code)
