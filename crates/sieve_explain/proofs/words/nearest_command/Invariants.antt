use Rattle.std.proofs.Common.{◌≡◌, drop, map}
use Rattle.sieve_check.specs.Rows.{command_word}
use Rattle.sieve_explain.specs.Words.{nearest_but}
use Rattle.sieve_explain.proofs.words.nearest_command.Given as goal

abbrev pub invariant-loop-known : goal.invariant-loop-known
invariant-loop-known l = nearest_but l.name l.found (map command_word (drop l.known-index l.commands)) ≡ nearest_but l.name l.found (map command_word l.commands)
