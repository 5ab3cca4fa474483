use Rattle.std.proofs.Common.{◌≡◌, drop}
use Rattle.sieve_explain.specs.Notes.{compares_octets}
use Rattle.sieve_explain.proofs.notes.compares_octets.Given as goal

abbrev pub invariant-loop-place : goal.invariant-loop-place
invariant-loop-place l = compares_octets l.script (drop l.place l.arguments) ≡ compares_octets l.script l.arguments
