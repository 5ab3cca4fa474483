use Rattle.std.proofs.Common.{◌≡◌, ◌≤◌, ◌++◌, drop, length}
use Rattle.sieve_explain.specs.Notes.{notes_from}
use Rattle.sieve_explain.specs.Private.{known_view, max_noted}
use Rattle.sieve_explain.proofs.notes.notes_from.Given as goal

-- those so far, and then those of the tokens that are left, are all
abbrev pub invariant-loop-place : goal.invariant-loop-place
invariant-loop-place l = record {
  all : l.found.items ++ notes_from l.source.octets.now (known_view l.source.octets.now l.known) l.inside (drop l.place l.tokens) ≡ notes_from l.source.octets.now (known_view l.source.octets.now l.known) 0 l.tokens;
  few : length l.found.items ≤ max_noted;
  inside : l.inside ≤ l.place;
}
