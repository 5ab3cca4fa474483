use Rattle.depot_jobs.proofs.SaidLemmas.{said}
use Rattle.depot_jobs.proofs.laws.numbers_and_encodings_are_said.Goals as goal

pub returns : goal.returns
returns c = said
