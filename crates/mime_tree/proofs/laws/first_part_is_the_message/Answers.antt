use Rattle.mime_tree.proofs.Places.{tree_whole}
use Rattle.mime_tree.proofs.laws.first_part_is_the_message.Goals as goal

pub returns : goal.returns
returns c = tree_whole
