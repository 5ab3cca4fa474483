use Rattle.std.proofs.Common.{◌≡◌, drop, map}
use Rattle.sieve_parser.specs.View.{argument_tree}
use Rattle.sieve_check.specs.Arguments.{label_needing_mime}
use Rattle.sieve_check.proofs.arguments.label_needing_mime.Given as goal

abbrev pub invariant-loop-argument : goal.invariant-loop-argument
invariant-loop-argument l = label_needing_mime (map argument_tree (drop l.argument-index l.arguments)) ≡ label_needing_mime (map argument_tree l.arguments)
