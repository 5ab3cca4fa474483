use Rattle.std.proofs.Common.{◌≡◌, drop, map}
use Rattle.sieve_parser.specs.View.{argument_tree}
use Rattle.sieve_check.specs.Arguments.{first_label}
use Rattle.sieve_check.proofs.arguments.first_label.Given as goal

abbrev pub invariant-loop-argument : goal.invariant-loop-argument
invariant-loop-argument l = first_label (map argument_tree (drop l.argument-index l.arguments)) ≡ first_label (map argument_tree l.arguments)
