use Rattle.std.proofs.Common.{[], ◌∷◌, pos}
use Rattle.sqlite_value.specs.declared.value.Value.TheVariants.{Int, Text, Blob}
use Rattle.sqlite.specs.Values.{or_null}
use Rattle.sqlite.specs.Held.{state}
use Rattle.part_store.proofs.Fitting.{user_fits}
use Rattle.part_store.specs.Statements.{add_user_text}
use Rattle.part_store.proofs.Runs.{writes}
use Rattle.part_store.proofs.UserRows.{user_added, bound_program}
use Rattle.part_store.proofs.users.add.Goals as goal

pub returns : goal.returns
returns g c =
    let old = c.args.tx.now.conn in
    let new = c.execute.new.self.conn in
    writes g.S.Store old new add_user_text (Text c.args.user.now ∷ Int (pos c.args.last) ∷ or_null (λ octets. Blob octets.now) c.args.program ∷ []) c.execute.result c.execute.ensures.same_reference c.execute.ensures.ended (rw (c.params-to_sql.ensures, c.params-to_sql-2.ensures, c.params-to_sql-3.ensures, bound_program c.args.program) at c.execute.ensures.runs) c.execute.ensures.survives _
    (user_added (state g.S.Store old.now) (state g.S.Store new.now) c.args.user.now c.args.last c.args.program)
    _ (λ e ran table none told can. user_fits (state g.S.Store old.now) (state g.S.Store new.now) e told can c.args.user.now c.args.last c.args.program table none (ran can.inside))
