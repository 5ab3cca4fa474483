use Rattle.std.proofs.Common.{◌≡◌, ◌≤◌, ◌-◌, length, take}
use Rattle.std.specs.List.{count_by, find, range_with_len}
use Rattle.sieve_explain.specs.Notes.{closes_group, is_literal_at, opens_group}
use Rattle.sieve_explain.proofs.notes.has_literal.Given as goal

-- what is found from here on is what is found at all; as many are opened and closed as before this place
abbrev pub invariant-loop-place : goal.invariant-loop-place
invariant-loop-place l = record {
  left : find (is_literal_at l.script l.word l.other l.tokens) (range_with_len l.place (length l.tokens - l.place)) ≡ find (is_literal_at l.script l.word l.other l.tokens) (range_with_len 0 (length l.tokens));
  opened : l.opened ≡ count_by opens_group (take l.place l.tokens);
  closed : l.closed ≡ count_by closes_group (take l.place l.tokens);
  few : l.closed ≤ l.place;
  some : l.opened ≤ l.place;
}
