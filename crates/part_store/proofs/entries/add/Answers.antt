use Rattle.std.proofs.Common.{[], ◌∷◌, pos}
use Rattle.sqlite_value.specs.declared.value.Value.TheVariants.{Int, Text, Blob}
use Rattle.sqlite.specs.Held.{state}
use Rattle.part_store.specs.Statements.{add_entry_text}
use Rattle.part_store.proofs.Runs.{writes}
use Rattle.part_store.proofs.EntryRows.{entry_added}
use Rattle.part_store.proofs.Fitting.{entry_fits}
use Rattle.part_store.proofs.entries.add.Goals as goal

pub returns : goal.returns
returns g c =
    let old = c.args.tx.now.conn in
    let new = c.execute.new.self.conn in
    writes g.S.Store old new add_entry_text (Text c.args.user.now ∷ Int (pos c.args.number) ∷ Blob c.args.folder.now ∷ Int (pos c.args.kind) ∷ Blob c.args.name.now ∷ Blob c.args.media.now ∷ Blob c.args.digest.now ∷ []) c.execute.result c.execute.ensures.same_reference c.execute.ensures.ended (rw (c.params-to_sql.ensures, c.params-to_sql-2.ensures, c.params-to_sql-3.ensures, c.params-to_sql-4.ensures, c.params-to_sql-5.ensures, c.params-to_sql-6.ensures, c.params-to_sql-7.ensures) at c.execute.ensures.runs) c.execute.ensures.survives _
    (entry_added (state g.S.Store old.now) (state g.S.Store new.now) c.args.user.now c.args.number c.args.folder.now c.args.kind c.args.name.now c.args.media.now c.args.digest.now)
    _ (λ e ran table free held told can. entry_fits (state g.S.Store old.now) (state g.S.Store new.now) e told can c.args.user.now c.args.number c.args.folder.now c.args.kind c.args.name.now c.args.media.now c.args.digest.now held.0 table free held.1 (ran can.inside))
