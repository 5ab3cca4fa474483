use Rattle.std.proofs.Common.{◌≡◌, drop}
use Rattle.sieve_explain.specs.Notes.{is_read}
use Rattle.sieve_explain.proofs.notes.is_read.Given as goal

abbrev pub invariant-loop-place : goal.invariant-loop-place
invariant-loop-place l = is_read l.script (drop l.place l.tokens) l.name ≡ is_read l.script l.tokens l.name
