use Rattle.mail_matching.proofs.Extents.{digest_cost-is}
use Rattle.mail_matching.proofs.laws.digest_cost_is_fixed.Goals as goal

pub returns : goal.returns
returns c = digest_cost-is
