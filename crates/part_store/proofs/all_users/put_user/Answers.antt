use Rattle.std.proofs.Common.{◌≡◌, [], ◌∷◌, IsTrue, option_map, refl, subst, arith}
use Rattle.std.proofs.lemmas.Result.{on_ok_weaker}
use Rattle.sqlite.specs.Held.{state}
use Rattle.part_store.specs.Inside.{Brings}
use Rattle.part_store.specs.Refusals.{refusal_of, OnlyWhenFailedOrNoLineRoom}
use Rattle.part_store.specs.UserLines.{UserLine, line_of, with_users}
use Rattle.part_store.proofs.Putting.{derefs, line_refused}
use Rattle.part_store.proofs.Runs.{err_then}
use Rattle.part_store.proofs.UserList.{same_fields}
use Rattle.part_store.proofs.all_users.put_user.Goals as goal

pub returns : goal.returns
returns g c =
    let old = state g.S.Store c.args.tx.now.conn.now in
    let new = state g.S.Store c.put_line.new.tx.conn.now in
    let line : UserLine = record { user = c.as_str.result.now; last = c.args.row.now.last; program = option_map (λ octets. octets.now) c.as_deref.result } in
    let same : line ≡ line_of c.args.row.now = same_fields line (line_of c.args.row.now) c.as_str.ensures.value refl (derefs c.args.row.now.program c.as_deref.result c.as_deref.ensures.cases) in
    let puts = c.put_line.ensures in
    record {
      step = λ clean. on_ok_weaker c.put_line.result (subst (λ l. Brings (with_users (l ∷ [])) old new) same) (puts.step clean);
      inside = puts.inside;
      schema = puts.schema;
      cause = λ clean. err_then c.put_line.result _ _ (λ e cause. subst (λ l. IsTrue old.in_transaction → OnlyWhenFailedOrNoLineRoom (l ∷ []) old new (refusal_of e)) same (line_refused old new line e (omega arith) cause)) (puts.cause clean);
      rowids = puts.rowids;
      within = puts.within;
    }
