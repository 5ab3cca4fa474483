use Rattle.std.proofs.Common.{[], ◌∷◌}
use Rattle.sqlite_value.specs.declared.value.Value.TheVariants.{Blob}
use Rattle.sqlite.specs.Held.{state}
use Rattle.part_store.specs.Statements.{add_content_text}
use Rattle.part_store.proofs.Runs.{writes}
use Rattle.part_store.proofs.ContentRows.{content_added}
use Rattle.part_store.proofs.Fitting.{content_fits}
use Rattle.part_store.proofs.contents.add.Goals as goal

pub returns : goal.returns
returns g c =
    let old = c.args.tx.now.conn in
    let new = c.execute.new.self.conn in
    writes g.S.Store old new add_content_text (Blob c.args.digest.now ∷ Blob c.args.octets.now ∷ []) c.execute.result c.execute.ensures.same_reference c.execute.ensures.ended (rw (c.params-to_sql.ensures, c.params-to_sql-2.ensures) at c.execute.ensures.runs) c.execute.ensures.survives _
    (content_added (state g.S.Store old.now) (state g.S.Store new.now) c.args.digest.now c.args.octets.now)
    _ (λ e ran table none told can. content_fits (state g.S.Store old.now) (state g.S.Store new.now) e told can c.args.digest.now c.args.octets.now table none (ran can.inside))
