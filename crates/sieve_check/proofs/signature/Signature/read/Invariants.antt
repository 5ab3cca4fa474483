use Rattle.std.proofs.Common.{◌≡◌, map, length, None}
use Rattle.sieve_parser.specs.View.{argument_tree}
use Rattle.sieve_check.specs.Arguments.{arguments_read, rest_read}
use Rattle.sieve_check.specs.Reading.{given_of, left_of}
use Rattle.sieve_check.proofs.signature.Signature.read.Given as goal

-- the arguments that are left, after what was read, are read as all of them
abbrev pub invariant-tags : goal.invariant-tags
invariant-tags l = rest_read l.self (map argument_tree l.arguments) (given_of l.reading) None (left_of l.reading) ≡ arguments_read l.self (map argument_tree l.arguments)

abbrev pub decreases-tags : goal.decreases-tags
decreases-tags l = length l.reading.positional.now
