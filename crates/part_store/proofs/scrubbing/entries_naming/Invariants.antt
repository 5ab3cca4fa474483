use Rattle.std.proofs.Common.{◌≡◌, map, take}
use Rattle.sqlite.specs.Held.{state}
use Rattle.sqlite_trees.specs.Tree.{IsAscending}
use Rattle.part_store.specs.Scanning.{AreDamagedAmong, AreDamagedDigests}
use Rattle.part_store.specs.Scrubbing.{damaged_line}
use Rattle.part_store.specs.UserLines.{IsBeforeLine, line_of}
use Rattle.part_store.proofs.Referring.{names_of}
use Rattle.part_store.proofs.Scanned.{Scanned}
use Rattle.part_store.proofs.scrubbing.entries_naming.Given as goal

abbrev pub invariant-loop-row : goal.invariant-loop-row
invariant-loop-row g l = record {
  same_reference : l.tx.conn.ghost_name ≡ l.initial.tx.conn.ghost_name;
  so_far : Scanned (λ db before. AreDamagedDigests db l.digests.items → IsAscending IsBeforeLine (map line_of l.row-items) → AreDamagedAmong db before (names_of (take l.row-index l.row-items)) (map damaged_line l.found.items))
      (state g.S.Store l.initial.tx.conn.now) (state g.S.Store l.tx.conn.now);
}
