use Rattle.octet_lanes.proofs.Pairs.{all_halved}
use Rattle.octet_lanes.proofs.groups.halves_32.Goals as goal

pub returns : goal.returns
returns c = all_halved c.args.width 16 c.args.mask 8 c.args.lanes c.fits-lanes.0 c.requires.width c.requires.mask c.requires.small
