use Rattle.std.proofs.Common.{◌≡◌, drop}
use Rattle.std.specs.List.{find}
use Rattle.octets.specs.Ascii.{is_word}
use Rattle.sieve_check.specs.Rows.{command_word}
use Rattle.sieve_check.proofs.table.first_command.Given as goal

abbrev pub invariant-loop-known : goal.invariant-loop-known
invariant-loop-known l = find (λ known. is_word l.name (command_word known)) (drop l.known-index l.commands) ≡ find (λ known. is_word l.name (command_word known)) l.commands
