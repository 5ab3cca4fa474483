use Rattle.std.proofs.Common.{[], refl}
use Rattle.sqlite.specs.Held.{state}
use Rattle.part_store.specs.Tables.{with_contents, entries}
use Rattle.part_store.specs.Statements.{entries_text}
use Rattle.part_store.proofs.Meaning.{entries_made}
use Rattle.part_store.proofs.Creation.{table_made}
use Rattle.part_store.proofs.Runs.{makes}
use Rattle.part_store.proofs.tables.create_entries.Goals as goal

pub returns : goal.returns
returns g c =
    let old = c.args.tx.now.conn in
    let new = c.execute.new.self.conn in
    makes g.S.Store old new entries_text [] c.execute.result c.execute.ensures.same_reference c.execute.ensures.ended c.execute.ensures.runs c.execute.ensures.survives _
    (table_made entries_text with_contents entries entries_made.0 entries_made.1 entries_made.2 refl (state g.S.Store old.now) (state g.S.Store new.now))
