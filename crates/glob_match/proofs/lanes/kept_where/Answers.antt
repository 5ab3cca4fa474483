use Rattle.glob_match.proofs.Marks.{kept_equal}
use Rattle.glob_match.proofs.lanes.kept_where.Goals as goal

pub returns : goal.returns
returns c = kept_equal c.args.octet 32 c.args.lanes c.args.kept c.fits-lanes.0 c.fits-kept.0
