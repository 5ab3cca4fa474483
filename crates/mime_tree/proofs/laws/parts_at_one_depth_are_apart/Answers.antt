use Rattle.mime_tree.proofs.Together.{tree_one_by_one}
use Rattle.mime_tree.proofs.laws.parts_at_one_depth_are_apart.Goals as goal

pub returns : goal.returns
returns c = tree_one_by_one
