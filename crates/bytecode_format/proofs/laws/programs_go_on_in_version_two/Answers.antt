use Rattle.bytecode_format.proofs.Versions.{in_two}
use Rattle.bytecode_format.proofs.laws.programs_go_on_in_version_two.Goals as goal

pub returns : goal.returns
returns c = in_two
