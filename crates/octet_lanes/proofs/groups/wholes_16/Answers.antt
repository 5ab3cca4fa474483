use Rattle.octet_lanes.proofs.Pairs.{all_joined}
use Rattle.octet_lanes.proofs.groups.wholes_16.Goals as goal

pub returns : goal.returns
returns c = all_joined c.args.width 8 16 c.args.lanes c.fits-lanes.0 c.requires.width c.requires.small
