use Rattle.mime_tree.proofs.Places.{tree_nests}
use Rattle.mime_tree.proofs.laws.parts_nest.Goals as goal

pub returns : goal.returns
returns c = tree_nests
