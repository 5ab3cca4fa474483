use Rattle.std.proofs.Common.{◌-◌, ◌≤◌, length}
use Rattle.sieve_parser.specs.Lexemes.{lexemes}
use Rattle.sieve_parser.proofs.StringLists.{IsListSoFar}
use Rattle.sieve_parser.proofs.strings.string_list.Given as goal

abbrev pub invariant-strings : goal.invariant-strings
invariant-strings l = (l.next ≤ length (lexemes l.script l.tokens)) × IsListSoFar (lexemes l.script l.tokens) l.at l.first-inside.items.items l.next l.rest.items

abbrev pub decreases-strings : goal.decreases-strings
decreases-strings l = length (lexemes l.script l.tokens) - l.next
