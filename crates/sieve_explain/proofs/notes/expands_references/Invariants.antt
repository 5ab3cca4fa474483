use Rattle.std.proofs.Common.{◌≡◌, drop}
use Rattle.sieve_explain.specs.Notes.{expands_references}
use Rattle.sieve_explain.proofs.notes.expands_references.Given as goal

abbrev pub invariant-loop-place : goal.invariant-loop-place
invariant-loop-place l = expands_references l.script (drop l.place l.tokens) ≡ expands_references l.script l.tokens
