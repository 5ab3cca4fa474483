use Rattle.octet_lanes.proofs.Reading.{up_to_first, without_padding}
use Rattle.octet_lanes.proofs.reader.up_to_padding.Goals as goal

pub returns-in-Some : goal.returns-in-Some
returns-in-Some c = up_to_first c.args.text.now c.in-Some.end c.in-Some.ensures

pub returns-in-None : goal.returns-in-None
returns-in-None c = without_padding c.args.text.now c.in-None.ensures
