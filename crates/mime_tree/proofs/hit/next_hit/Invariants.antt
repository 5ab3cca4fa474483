use Rattle.std.proofs.Common.{◌≡◌, ◌-◌, ◌≤◌, [], List, length}
use Rattle.mime_tree.specs.PartTree.{Part}
use Rattle.mime_tree.specs.OpenParts.{finished, lines_at}
use Rattle.mime_tree.proofs.hit.next_hit.Given as goal

-- the lines so far ended no part
abbrev pub invariant-lines : goal.invariant-lines
invariant-lines l = record {
  same_text : l.lines.text ≡ l.text;
  forward : l.place ≤ l.lines.place;
  within : l.lines.place ≤ length l.text;
  so_far : (parts : List Part) → finished l.preamble [] l.place l.end (lines_at l.text l.place) l.opened parts
      ≡ finished l.preamble [] l.lines.place l.before (lines_at l.text l.lines.place) l.opened parts;
}

abbrev pub decreases-lines : goal.decreases-lines
decreases-lines l = length l.text - l.lines.place
