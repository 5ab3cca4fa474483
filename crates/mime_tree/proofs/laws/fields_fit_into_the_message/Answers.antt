use Rattle.mime_tree.proofs.Places.{tree_extent}
use Rattle.mime_tree.proofs.laws.fields_fit_into_the_message.Goals as goal

pub returns : goal.returns
returns c = tree_extent
