use Rattle.std.proofs.Common.{◌≡◌, ◌-◌, ◌≤◌, vec_len}
use Rattle.octets.specs.Limits.{max_parts}
use Rattle.mime_tree.specs.PartTree.{tree_of}
use Rattle.mime_tree.specs.Reading.{AreAmong, GivesPart, wanted}
use Rattle.mime_tree.proofs.reader.message_parts.Given as goal

-- the parts so far become those of the message
abbrev pub invariant-parts : goal.invariant-parts
invariant-parts l = record {
  next : GivesPart l.text l.next;
  among : AreAmong (vec_len l.parts) l.opened.items;
  few : vec_len l.parts ≤ max_parts;
  so_far : wanted l.text l.next l.opened.items l.parts.items ≡ tree_of l.text;
}

abbrev pub decreases-parts : goal.decreases-parts
decreases-parts l = max_parts - vec_len l.parts
