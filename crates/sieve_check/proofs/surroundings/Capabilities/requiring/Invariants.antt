use Rattle.std.proofs.Common.{◌≡◌, length, map}
use Rattle.sieve_parser.specs.View.{argument_tree}
use Rattle.sieve_check.specs.Rules.{strings_of}
use Rattle.sieve_check.specs.Surroundings.{requiring}
use Rattle.sieve_check.proofs.surroundings.Capabilities.requiring.Given as goal

abbrev pub invariant-names : goal.invariant-names
invariant-names l = requiring l.names l.all ≡ requiring (strings_of (map argument_tree l.arguments)) l.fn.self

abbrev pub decreases-names : goal.decreases-names
decreases-names l = length l.names
