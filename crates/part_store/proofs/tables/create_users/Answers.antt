use Rattle.std.proofs.Common.{[], refl}
use Rattle.sqlite.specs.Held.{state}
use Rattle.part_store.specs.Tables.{no_schema, users}
use Rattle.part_store.specs.Statements.{users_text}
use Rattle.part_store.proofs.Meaning.{users_made}
use Rattle.part_store.proofs.Creation.{table_made}
use Rattle.part_store.proofs.Runs.{makes}
use Rattle.part_store.proofs.tables.create_users.Goals as goal

pub returns : goal.returns
returns g c =
    let old = c.args.tx.now.conn in
    let new = c.execute.new.self.conn in
    makes g.S.Store old new users_text [] c.execute.result c.execute.ensures.same_reference c.execute.ensures.ended c.execute.ensures.runs c.execute.ensures.survives _
    (table_made users_text no_schema users users_made.0 users_made.1 users_made.2 refl (state g.S.Store old.now) (state g.S.Store new.now))
