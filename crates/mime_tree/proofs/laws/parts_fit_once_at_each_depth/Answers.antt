use Rattle.mime_tree.proofs.Together.{tree_together}
use Rattle.mime_tree.proofs.laws.parts_fit_once_at_each_depth.Goals as goal

pub returns : goal.returns
returns c = tree_together
