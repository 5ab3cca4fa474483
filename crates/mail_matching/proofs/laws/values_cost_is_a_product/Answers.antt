use Rattle.mail_matching.proofs.Extents.{values_cost-product}
use Rattle.mail_matching.proofs.laws.values_cost_is_a_product.Goals as goal

pub returns : goal.returns
returns c = values_cost-product
