use Rattle.std.proofs.Common.{◌≡◌, ◌<◌, false, length, take, drop}
use Rattle.mime_tree.specs.OpenParts.{meets_any}
use Rattle.mime_tree.proofs.hit.part_met.Given as goal

-- the open parts so far aren't met
abbrev pub invariant-loop-place : goal.invariant-loop-place
invariant-loop-place l = record {
  none : l.place < length l.opened → meets_any false (take l.place l.opened) l.line ≡ false;
  left : meets_any l.preamble l.opened l.line ≡ meets_any l.preamble (drop l.place l.opened) l.line;
}
