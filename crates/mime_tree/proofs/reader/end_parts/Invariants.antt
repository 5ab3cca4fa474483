use Rattle.std.proofs.Common.{◌≡◌, ◌-◌, ◌≤◌, drop, vec_len}
use Rattle.mime_tree.specs.OpenParts.{all_ended}
use Rattle.mime_tree.proofs.reader.end_parts.Given as goal

-- the open parts from a place on were ended
abbrev pub invariant-inner : goal.invariant-inner
invariant-inner l = record {
  low : l.keep ≤ l.left;
  high : l.left ≤ vec_len l.opened;
  so_far : l.parts.items ≡ all_ended l.end (drop l.left l.opened.items) l.initial.parts.items;
  len : vec_len l.parts ≡ vec_len l.initial.parts;
}

abbrev pub decreases-inner : goal.decreases-inner
decreases-inner l = l.left - l.keep
