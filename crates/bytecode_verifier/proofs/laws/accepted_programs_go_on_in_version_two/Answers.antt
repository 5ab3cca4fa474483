use Rattle.bytecode_verifier.proofs.Versions.{accepted_in_two}
use Rattle.bytecode_verifier.proofs.laws.accepted_programs_go_on_in_version_two.Goals as goal

pub returns : goal.returns
returns c = accepted_in_two
