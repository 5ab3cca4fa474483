use Rattle.std.proofs.Common.{◌≡◌, map, take}
use Rattle.sqlite.specs.Held.{state}
use Rattle.part_store.specs.Entries.{with_programs}
use Rattle.part_store.specs.Standing.{pair_of}
use Rattle.part_store.proofs.Replacing.{Replacing}
use Rattle.part_store.proofs.stored_programs.replace_all.Given as goal

abbrev pub invariant-loop-user : goal.invariant-loop-user
invariant-loop-user g l = record {
  same_reference : l.tx.conn.ghost_name ≡ l.initial.tx.conn.ghost_name;
  so_far : Replacing with_programs (map pair_of (take l.user-index l.programs)) (state g.S.Store l.initial.tx.conn.now) (state g.S.Store l.tx.conn.now);
}
