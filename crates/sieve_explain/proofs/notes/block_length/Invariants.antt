use Rattle.std.proofs.Common.{◌≡◌, ◌≤◌, ◌+◌, drop}
use Rattle.sieve_explain.specs.Notes.{block_length}
use Rattle.sieve_explain.proofs.notes.block_length.Given as goal

abbrev pub invariant-loop-place : goal.invariant-loop-place
invariant-loop-place l = record {
  left : l.place + block_length l.depth (drop l.place l.tokens) ≡ block_length 0 l.tokens;
  few : l.depth ≤ l.place;
}
