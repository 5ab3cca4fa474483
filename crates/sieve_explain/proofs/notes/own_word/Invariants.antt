use Rattle.std.proofs.Common.{◌≡◌, ◌≤◌, ◌-◌, length, take}
use Rattle.std.specs.List.{count_by, find, range_with_len}
use Rattle.sieve_explain.specs.Notes.{closes_block, is_own_word, opens_block}
use Rattle.sieve_explain.specs.Private.{texts_of}
use Rattle.sieve_explain.proofs.notes.own_word.Given as goal

-- what is found from here on is what is found at all; as many are opened and closed as before this place
abbrev pub invariant-loop-place : goal.invariant-loop-place
invariant-loop-place l = record {
  left : find (is_own_word l.script (texts_of l.words) l.block) (range_with_len l.place (length l.block - l.place)) ≡ find (is_own_word l.script (texts_of l.words) l.block) (range_with_len 0 (length l.block));
  opened : l.opened ≡ count_by opens_block (take l.place l.block);
  closed : l.closed ≡ count_by closes_block (take l.place l.block);
  few : l.closed ≤ l.place;
  some : l.opened ≤ l.place;
}
