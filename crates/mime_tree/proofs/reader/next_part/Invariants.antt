use Rattle.std.proofs.Common.{◌≡◌, ◌-◌, ◌≤◌, [], true, length, vec_len}
use Rattle.mime_tree.specs.OpenParts.{finished, lines_at}
use Rattle.mime_tree.specs.Reading.{AreAmong}
use Rattle.mime_tree.proofs.reader.next_part.Given as goal

-- what the parts become is still the same
abbrev pub invariant-lines : goal.invariant-lines
invariant-lines l = record {
  within : l.place ≤ length l.text;
  before : l.end ≤ l.place;
  among : AreAmong (vec_len l.parts) l.opened.items;
  len : vec_len l.parts ≡ vec_len l.initial.parts;
  so_far : finished l.preamble [] l.place l.end (lines_at l.text l.place) l.opened.items l.parts.items
      ≡ finished true [] l.place-2 l.end-2 (lines_at l.text l.place-2) l.initial.opened.items l.initial.parts.items;
}

abbrev pub decreases-lines : goal.decreases-lines
decreases-lines l = length l.text - l.place
