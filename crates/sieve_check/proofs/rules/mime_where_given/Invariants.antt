use Rattle.std.proofs.Common.{◌≡◌, drop, map}
use Rattle.std.specs.List.{list_any}
use Rattle.sieve_parser.specs.View.{argument_tree}
use Rattle.sieve_check.specs.Rules.{is_mime_tag}
use Rattle.sieve_check.proofs.rules.mime_where_given.Given as goal

abbrev pub invariant-loop-argument : goal.invariant-loop-argument
invariant-loop-argument l = list_any is_mime_tag (map argument_tree (drop l.argument-index l.arguments)) ≡ list_any is_mime_tag (map argument_tree l.arguments)
