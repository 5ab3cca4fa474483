use Rattle.std.proofs.Common.{◌∙◌, sym}
use Rattle.glob_match.proofs.Blocks.{first_differs}
use Rattle.glob_match.proofs.fold.equal_from_first.Goals as goal

pub returns-then-not-same : goal.returns-then-not-same
returns-then-not-same c = first_differs c.args.value.now c.args.key.now c.requires.some (sym c.same.ensures ∙ c.if-not-same.true)
