use Rattle.std.proofs.Common.{◌≡◌, drop}
use Rattle.sieve_parser.specs.View.{commands_tree}
use Rattle.sieve_check.specs.FormOf.{forms_of}
use Rattle.sieve_check.specs.Forming.{commands_formed}
use Rattle.sieve_check.specs.Refusing.{context_of}
use Rattle.sieve_check.specs.Sequences.{finished_by}
use Rattle.sieve_check.specs.Signatures.{◌>>=◌}
use Rattle.sieve_check.proofs.forming.+commands.Given as goal

abbrev pub invariant-commands-trees : goal.invariant-commands-trees
invariant-commands-trees l = (forms_of (context_of l.around) (commands_tree (drop l.tree-index l.trees)) >>= finished_by l.sequence) ≡ commands_formed (context_of l.initial.around) (commands_tree l.trees)
