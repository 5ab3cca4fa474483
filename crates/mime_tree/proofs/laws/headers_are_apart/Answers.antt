use Rattle.mime_tree.proofs.Places.{tree_apart}
use Rattle.mime_tree.proofs.laws.headers_are_apart.Goals as goal

pub returns : goal.returns
returns c = tree_apart
