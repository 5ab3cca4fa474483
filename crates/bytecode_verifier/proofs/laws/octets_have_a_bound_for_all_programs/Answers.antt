use Rattle.bytecode_verifier.proofs.Numbers.{octets_at_most}
use Rattle.bytecode_verifier.proofs.laws.octets_have_a_bound_for_all_programs.Goals as goal

pub returns : goal.returns
returns c = octets_at_most
