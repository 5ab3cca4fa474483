use Rattle.std.proofs.Common.{◌+◌, ◌-◌, ◌*◌, ◌≤◌, length}
use Rattle.sieve_parser.specs.Lexemes.{lexemes}
use Rattle.sieve_parser.proofs.CommandSteps.{AreCommandsSoFar}
use Rattle.sieve_parser.proofs.command.+blocks.Given as goal

abbrev pub decreases-command : goal.decreases-command
decreases-command l = 2 * (33 - l.depth)

abbrev pub decreases-commands : goal.decreases-commands
decreases-commands l = 2 * (33 - l.depth) + 1

abbrev pub invariant-commands-commands : goal.invariant-commands-commands
invariant-commands-commands l = (l.next ≤ length (lexemes l.script l.tokens)) × AreCommandsSoFar (lexemes l.script l.tokens) l.at l.depth l.next l.commands.items

abbrev pub decreases-commands-commands : goal.decreases-commands-commands
decreases-commands-commands l = length (lexemes l.script l.tokens) - l.next
