use Rattle.std.proofs.Common.{◌≡◌, take}
use Rattle.std.specs.List.{AllByRecursion}
use Rattle.sqlite.specs.Held.{state}
use Rattle.part_store.specs.Scanning.{ShowsContent, damaged_in, texts_of}
use Rattle.part_store.proofs.Scanned.{Scanned}
use Rattle.part_store.proofs.scrubbing.damaged_among.Given as goal

abbrev pub invariant-loop-row : goal.invariant-loop-row
invariant-loop-row g l = record {
  same_reference : l.tx.conn.ghost_name ≡ l.initial.tx.conn.ghost_name;
  so_far : Scanned (λ db before. AllByRecursion (ShowsContent db) l.row-items → texts_of l.digests.items ≡ damaged_in db (take l.row-index l.row-items)) (state g.S.Store l.initial.tx.conn.now) (state g.S.Store l.tx.conn.now);
}
