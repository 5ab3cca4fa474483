use Rattle.std.proofs.Common.{◌≡◌, ◌≤◌, ◌+◌, length, drop}
use Rattle.sieve_explain.specs.Marks.{unclosed, unopened}
use Rattle.sieve_explain.proofs.marks.unclosed.Given as goal

-- what is known of the tokens from the place on
abbrev pub invariant-loop-place : goal.invariant-loop-place
invariant-loop-place l = record {
  waiting : l.waiting ≡ unopened (drop l.place l.tokens);
  found : l.found ≡ unclosed (drop l.place l.tokens);
  few : l.waiting + l.place ≤ length l.tokens;
}
