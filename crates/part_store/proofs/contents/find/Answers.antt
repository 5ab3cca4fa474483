use Rattle.std.proofs.Common.{[], ◌∷◌}
use Rattle.sqlite_value.specs.declared.value.Value.TheVariants.{Blob}
use Rattle.sqlite.specs.Held.{state}
use Rattle.part_store.specs.Statements.{find_content_text}
use Rattle.part_store.proofs.Asked.{find_content_faults}
use Rattle.part_store.proofs.ContentRows.{content_found}
use Rattle.part_store.proofs.Queries.{answered, refused}
use Rattle.part_store.proofs.contents.find.Goals as goal

pub returns : goal.returns
returns g c =
    let old = c.args.tx.now.conn in
    let new = c.query_all.new.self.conn in
    answered g.S.Store old new find_content_text (Blob c.args.digest.now ∷ []) c.query_all.ensures.same_reference c.query_all.ensures.survives _ c.first_of.result c.in_ok-rows.rows.items (rw c.params-to_sql.ensures at c.in_ok-rows.ensures.ok)
    (λ shown. rw c.first_of.ensures (content_found (state g.S.Store old.now) (state g.S.Store new.now) c.args.digest.now _ shown))

pub returns-in_err-rows : goal.returns-in_err-rows
returns-in_err-rows g c =
    let old = c.args.tx.now.conn in
    let new = c.query_all.new.self.conn in
    refused g.S.Store old new find_content_text (Blob c.args.digest.now ∷ []) c.query_all.ensures.same_reference c.query_all.ensures.survives _ (find_content_faults (state g.S.Store old.now) (state g.S.Store new.now) c.args.digest.now) c.from_residual.result c.in_err-rows.field-0.0
    c.from_residual.ensures.1 (rw c.params-to_sql.ensures at c.in_err-rows.ensures.err)
