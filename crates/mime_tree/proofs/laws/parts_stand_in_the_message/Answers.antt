use Rattle.mime_tree.proofs.Places.{tree_within}
use Rattle.mime_tree.proofs.laws.parts_stand_in_the_message.Goals as goal

pub returns : goal.returns
returns c = tree_within
