use Rattle.std.proofs.Common.{[], ◌∷◌, pos}
use Rattle.sqlite_value.specs.declared.value.Value.TheVariants.{Int, Text}
use Rattle.sqlite.specs.Held.{state}
use Rattle.part_store.specs.Statements.{drop_entry_text}
use Rattle.part_store.proofs.Runs.{writes}
use Rattle.part_store.proofs.EntryRows.{entry_taken}
use Rattle.part_store.proofs.Deleting.{entry_kept}
use Rattle.part_store.proofs.entries.remove.Goals as goal

pub returns : goal.returns
returns g c =
    let old = c.args.tx.now.conn in
    let new = c.execute.new.self.conn in
    writes g.S.Store old new drop_entry_text (Text c.args.user.now ∷ Int (pos c.args.number) ∷ []) c.execute.result c.execute.ensures.same_reference c.execute.ensures.ended (rw (c.params-to_sql.ensures, c.params-to_sql-2.ensures) at c.execute.ensures.runs) c.execute.ensures.survives _
    (entry_taken (state g.S.Store old.now) (state g.S.Store new.now) c.args.user.now c.args.number)
    _ (λ e ran told can. entry_kept (state g.S.Store old.now) (state g.S.Store new.now) e told can c.args.user.now c.args.number (ran can.inside))
