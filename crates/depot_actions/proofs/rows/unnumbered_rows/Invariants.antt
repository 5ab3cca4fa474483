use Rattle.std.proofs.Common.{◌≡◌, map, take}
use Rattle.part_store.specs.Standing.{draft_of, listed}
use Rattle.depot_actions.specs.Filing.{unnumbered}
use Rattle.depot_actions.proofs.rows.unnumbered_rows.Given as goal

abbrev pub invariant-loop-entry : goal.invariant-loop-entry
invariant-loop-entry l = map listed l.rows.items ≡ map unnumbered (map draft_of (take l.entry-index l.entries))
