use Rattle.sqlite.proofs.Callers.{memory_is_clean}
use Rattle.part_store.proofs.store.PartStore+MemStore.in_memory.Goals as goal

pub returns-clause-empty : goal.returns-clause-empty
returns-clause-empty c = (c.in_ok-ready_tables.ensures.made (memory_is_clean c.ready_tables.new.conn) c.in_ok-conn.ensures.empty.2).0

pub returns-clause-committed : goal.returns-clause-committed
returns-clause-committed c = (c.in_ok-ready_tables.ensures.made (memory_is_clean c.ready_tables.new.conn) c.in_ok-conn.ensures.empty.2).1
