use Rattle.std.proofs.Common.{ap, arith, length}
use Rattle.mime_tree.proofs.Places.{tree_headers}
use Rattle.mime_tree.proofs.tree.Tree.body.Goals as goal

pub body-requires : goal.body-requires
body-requires c =
    tree_headers c.self.inside.parts.items c.self.invariant.0 c.args.part c.index.result.now (omega (arith, c.requires, ap length c.self.view_is)) c.index.ensures
