use Rattle.std.proofs.Common.{[], ◌∷◌, pos}
use Rattle.sqlite_value.specs.declared.value.Value.TheVariants.{Int, Text}
use Rattle.sqlite.specs.Held.{state}
use Rattle.part_store.specs.Statements.{renew_user_text}
use Rattle.part_store.proofs.Runs.{writes}
use Rattle.part_store.proofs.UserRows.{user_renewed}
use Rattle.part_store.proofs.Renewing.{user_renewable}
use Rattle.part_store.proofs.users.renew.Goals as goal

pub returns : goal.returns
returns g c =
    let old = c.args.tx.now.conn in
    let new = c.execute.new.self.conn in
    writes g.S.Store old new renew_user_text (Text c.args.user.now ∷ Int (pos c.args.last) ∷ []) c.execute.result c.execute.ensures.same_reference c.execute.ensures.ended (rw (c.params-to_sql.ensures, c.params-to_sql-2.ensures) at c.execute.ensures.runs) c.execute.ensures.survives _
    (user_renewed (state g.S.Store old.now) (state g.S.Store new.now) c.args.user.now c.args.last)
    _ (λ e ran id was program only told can. user_renewable (state g.S.Store old.now) (state g.S.Store new.now) e told can c.args.user.now id was c.args.last program only (ran can.inside))
