use Rattle.mail_matching.proofs.Extents.{values_cost-within}
use Rattle.mail_matching.proofs.laws.values_cost_is_within_the_message.Goals as goal

pub returns : goal.returns
returns c = values_cost-within
