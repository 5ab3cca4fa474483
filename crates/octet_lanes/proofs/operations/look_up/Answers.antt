use Rattle.octet_lanes.proofs.Lanes.{looked_up, places_ok}
use Rattle.octet_lanes.proofs.operations.look_up.Goals as goal

pub swizzle : goal.swizzle
swizzle c = places_ok c.args.places c.fits-places.0 c.requires.places

pub returns : goal.returns
returns c = looked_up c.args.table c.args.places c.fits-places.0 c.requires.twice c.requires.places
