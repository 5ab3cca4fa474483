use Rattle.std.proofs.Common.{take}
use Rattle.mime_tree.specs.Reading.{AreWithin}
use Rattle.mime_tree.proofs.lengths.BoundaryLengths.of.Given as goal

-- the boundaries so far are within them
abbrev pub invariant-loop-part : goal.invariant-loop-part
invariant-loop-part l = AreWithin l.lengths (take l.part-index l.opened)
