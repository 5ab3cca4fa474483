use Rattle.std.proofs.Common.{[], ◌∷◌}
use Rattle.sqlite_value.specs.declared.value.Value.TheVariants.{Text}
use Rattle.sqlite.specs.Held.{state}
use Rattle.part_store.specs.Statements.{drop_user_text}
use Rattle.part_store.proofs.Runs.{writes}
use Rattle.part_store.proofs.UserRows.{user_taken}
use Rattle.part_store.proofs.Deleting.{user_kept}
use Rattle.part_store.proofs.users.remove.Goals as goal

pub returns : goal.returns
returns g c =
    let old = c.args.tx.now.conn in
    let new = c.execute.new.self.conn in
    writes g.S.Store old new drop_user_text (Text c.args.user.now ∷ []) c.execute.result c.execute.ensures.same_reference c.execute.ensures.ended (rw c.params-to_sql.ensures at c.execute.ensures.runs) c.execute.ensures.survives _
    (user_taken (state g.S.Store old.now) (state g.S.Store new.now) c.args.user.now)
    _ (λ e ran told can. user_kept (state g.S.Store old.now) (state g.S.Store new.now) e told can c.args.user.now (ran can.inside))
