use Rattle.octet_lanes.proofs.ReadBack.{reads_back}
use Rattle.octet_lanes.proofs.laws.reads_what_was_written.Goals as goal

pub returns : goal.returns
returns c = reads_back
