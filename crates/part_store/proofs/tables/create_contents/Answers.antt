use Rattle.std.proofs.Common.{[], refl}
use Rattle.sqlite.specs.Held.{state}
use Rattle.part_store.specs.Tables.{with_users, contents}
use Rattle.part_store.specs.Statements.{contents_text}
use Rattle.part_store.proofs.Meaning.{contents_made}
use Rattle.part_store.proofs.Creation.{table_made}
use Rattle.part_store.proofs.Runs.{makes}
use Rattle.part_store.proofs.tables.create_contents.Goals as goal

pub returns : goal.returns
returns g c =
    let old = c.args.tx.now.conn in
    let new = c.execute.new.self.conn in
    makes g.S.Store old new contents_text [] c.execute.result c.execute.ensures.same_reference c.execute.ensures.ended c.execute.ensures.runs c.execute.ensures.survives _
    (table_made contents_text with_users contents contents_made.0 contents_made.1 contents_made.2 refl (state g.S.Store old.now) (state g.S.Store new.now))
