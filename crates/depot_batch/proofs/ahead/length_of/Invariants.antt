use Rattle.std.proofs.Common.{◌≡◌, length, take}
use Rattle.std.specs.List.{concat}
use Rattle.depot_batch.specs.Private.{lines_of}
use Rattle.depot_batch.proofs.ahead.length_of.Given as goal

abbrev pub invariant-loop-line : goal.invariant-loop-line
invariant-loop-line l = l.len ≡ length (concat (lines_of (take l.line-index l.lines)))
