use Rattle.std.proofs.Common.{◌≡◌}
use Rattle.sqlite.specs.Held.{state}
use Rattle.part_store.proofs.Showing.{Reading}
use Rattle.part_store.proofs.listing.list_since.Given as goal

abbrev pub invariant-loop-row : goal.invariant-loop-row
invariant-loop-row g l = record {
  same_reference : l.tx.conn.ghost_name ≡ l.initial.tx.conn.ghost_name;
  so_far : Reading l.row-items l.row-index l.listed.items (state g.S.Store l.initial.tx.conn.now) (state g.S.Store l.tx.conn.now);
}
