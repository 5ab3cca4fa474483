use Rattle.std.proofs.Common.{◌≡◌, ◌+◌, length, map, take}
use Rattle.sqlite.specs.Held.{state}
use Rattle.part_store.specs.Standing.{draft_of}
use Rattle.part_store.specs.Noting.{AreNoted}
use Rattle.part_store.proofs.FiledAll.{Filing}
use Rattle.part_store.proofs.adding.file_all.Given as goal

abbrev pub invariant-loop-entry : goal.invariant-loop-entry
invariant-loop-entry g l = record {
  same_reference : l.tx.conn.ghost_name ≡ l.initial.tx.conn.ghost_name;
  noted : AreNoted (map draft_of l.entries) l.entry-index l.shared;
  number : l.number ≡ l.last + l.entry-index;
  so_far : Filing l.user l.last (length l.entries) (map draft_of (take l.entry-index l.entries)) (state g.S.Store l.initial.tx.conn.now) (state g.S.Store l.tx.conn.now);
}
