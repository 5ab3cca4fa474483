use Rattle.std.proofs.Common.{◌≡◌, map, take}
use Rattle.sqlite.specs.Held.{state}
use Rattle.part_store.specs.UserLines.{line_of, with_users}
use Rattle.part_store.proofs.Replacing.{Replacing}
use Rattle.part_store.proofs.all_users.put_all.Given as goal

abbrev pub invariant-loop-row : goal.invariant-loop-row
invariant-loop-row g l = record {
  same_reference : l.tx.conn.ghost_name ≡ l.initial.tx.conn.ghost_name;
  so_far : Replacing with_users (map line_of (take l.row-index l.rows)) (state g.S.Store l.initial.tx.conn.now) (state g.S.Store l.tx.conn.now);
}
