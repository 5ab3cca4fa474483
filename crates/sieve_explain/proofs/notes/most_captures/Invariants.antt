use Rattle.std.proofs.Common.{◌≡◌, drop}
use Rattle.std.specs.Prelude.{max}
use Rattle.sieve_explain.specs.Notes.{most_captures}
use Rattle.sieve_explain.proofs.notes.most_captures.Given as goal

abbrev pub invariant-loop-place : goal.invariant-loop-place
invariant-loop-place l = max l.most (most_captures l.script (drop l.place l.tokens)) ≡ most_captures l.script l.tokens
