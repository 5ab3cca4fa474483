use Rattle.sieve_parser.proofs.Extent.{tree_fits}
use Rattle.sieve_parser.proofs.laws.scripts_are_as_long_as_their_trees.Goals as goal

pub returns : goal.returns
returns c = λ script cs h. tree_fits script cs h
