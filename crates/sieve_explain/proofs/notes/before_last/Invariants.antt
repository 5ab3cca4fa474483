use Rattle.std.proofs.Common.{◌≡◌, ◌+◌, drop}
use Rattle.sieve_explain.specs.Notes.{before_last}
use Rattle.sieve_explain.proofs.notes.before_last.Given as goal

abbrev pub invariant-loop-place : goal.invariant-loop-place
invariant-loop-place l = l.place + before_last (drop l.place l.arguments) ≡ before_last l.arguments
