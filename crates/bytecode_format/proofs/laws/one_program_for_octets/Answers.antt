use Rattle.bytecode_format.proofs.FormatLemmas.{one_program}
use Rattle.bytecode_format.proofs.laws.one_program_for_octets.Goals as goal

pub returns : goal.returns
returns c = one_program
