use Rattle.std.proofs.Common.{[], ◌∷◌, pos}
use Rattle.sqlite_value.specs.declared.value.Value.TheVariants.{Int, Text}
use Rattle.sqlite.specs.Held.{state}
use Rattle.part_store.specs.Statements.{list_entries_text}
use Rattle.part_store.proofs.Asked.{list_entries_faults}
use Rattle.part_store.proofs.EntryRows.{entries_listed}
use Rattle.part_store.proofs.Queries.{asks}
use Rattle.part_store.proofs.entries.list.Goals as goal

pub returns : goal.returns
returns g c =
    let old = c.args.tx.now.conn in
    let new = c.query_all.new.self.conn in
    asks g.S.Store old new list_entries_text (Text c.args.user.now ∷ Int (pos c.args.number) ∷ []) c.query_all.ensures.same_reference c.query_all.ensures.survives _ (λ rows. entries_listed (state g.S.Store old.now) (state g.S.Store new.now) c.args.user.now c.args.number rows.items)
    (list_entries_faults (state g.S.Store old.now) (state g.S.Store new.now) c.args.user.now c.args.number) c.query_all.result (rw (c.params-to_sql.ensures, c.params-to_sql-2.ensures) at c.query_all.ensures.ok) (rw (c.params-to_sql.ensures, c.params-to_sql-2.ensures) at c.query_all.ensures.err)
