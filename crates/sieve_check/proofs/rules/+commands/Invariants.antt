use Rattle.std.proofs.Common.{drop}
use Rattle.sieve_parser.specs.View.{commands_tree}
use Rattle.sieve_check.specs.Refusing.{context_of}
use Rattle.sieve_check.specs.Rules.{commands_visits}
use Rattle.sieve_check.proofs.Visits.{AreLeft}
use Rattle.sieve_check.proofs.rules.+commands.Given as goal

abbrev pub invariant-commands-trees : goal.invariant-commands-trees
invariant-commands-trees l =
    AreLeft l.findings (commands_visits (context_of l.around) (commands_tree (drop l.tree-index l.trees)))
    l.initial.findings (commands_visits (context_of l.initial.around) (commands_tree l.trees))
