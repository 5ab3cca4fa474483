use Rattle.std.proofs.Common.{◌≡◌, [], ◌∷◌, Err, ◌∙◌, ap, sym, subst}
use Rattle.sqlite_value.specs.declared.value.Value.TheVariants.{Blob}
use Rattle.sqlite.specs.Held.{state}
use Rattle.sqlite.specs.State.{ExecutesInside, HasCleanDisk}
use Rattle.part_store.specs.Causes.{still_named}
use Rattle.part_store.specs.Statements.{drop_content_text}
use Rattle.part_store.proofs.Runs.{err_then, execute_kept, executed, on_ok_then, refused_inside, refused_with}
use Rattle.part_store.proofs.Stopped.{named_leaves}
use Rattle.part_store.proofs.Deleting.{content_named, content_refused, content_tidied}
use Rattle.part_store.proofs.contents.remove_unnamed.Goals as goal

pub returns-in-Ok : goal.returns-in-Ok
returns-in-Ok g c =
    let old = c.args.tx.now.conn.now in
    let new = c.execute.new.self.conn.now in
    let params = Blob c.args.digest.now ∷ [] in
    let ran = λ (clean : HasCleanDisk (state g.S.Store new)). executed g.S.Store old new drop_content_text params c.execute.result c.execute.ensures.ended (rw c.params-to_sql.ensures at c.execute.ensures.runs) clean c.in-Ok.field-0 c.in-Ok.is in
    record {
      same_reference = c.execute.ensures.same_reference;
      step = λ clean has listed table. content_tidied (state g.S.Store old) (state g.S.Store new) c.args.digest.now has listed table c.in-Ok.field-0 (ran clean);
      inside = λ clean. (ran clean).1.mode;
      kept = execute_kept g.S.Store old new _ _ c.execute.result c.execute.ensures.ended c.execute.ensures.runs;
      fault = λ _. tt;
      survives = c.execute.ensures.survives;
    }

pub returns-in-Err : goal.returns-in-Err
returns-in-Err g c =
    let old = c.args.tx.now.conn.now in
    let new = c.execute.new.self.conn.now in
    let params = Blob c.args.digest.now ∷ [] in
    let runs = rw c.params-to_sql.ensures at c.execute.ensures.runs in
    let ended = c.execute.ensures.ended in
    let named = λ (clean : HasCleanDisk (state g.S.Store new)) (is : c.in-Err.error ≡ still_named). refused_with g.S.Store old new drop_content_text params c.execute.result ended runs clean _ (λ h. cc) (c.in-Err.is ∙ ap Err is) in
    record {
      same_reference = c.execute.ensures.same_reference;
      step = λ clean. on_ok_then c.unless_named.result _ _ (λ is has listed table. content_named (state g.S.Store old) (state g.S.Store new) c.args.digest.now has listed table (named clean is)) c.unless_named.ensures.named;
      inside = λ clean. on_ok_then c.unless_named.result _ _ (λ is. (named_leaves _ _ (state g.S.Store old) (state g.S.Store new) (named clean is)).0.mode
          ∙ refused_inside g.S.Store old new _ _ c.execute.result ended runs clean _ (λ h. cc) (c.in-Err.is ∙ ap Err is)) c.unless_named.ensures.named;
      kept = execute_kept g.S.Store old new _ _ c.execute.result ended runs;
      fault = λ clean. err_then c.unless_named.result _ _ (λ e is told can. content_refused (state g.S.Store old) (state g.S.Store new) c.args.digest.now e told (λ same. is.1 (sym is.0 ∙ same)) can
          (subst (ExecutesInside 0 drop_content_text params (state g.S.Store old) (state g.S.Store new)) (c.in-Err.is ∙ ap Err (sym is.0)) (runs clean can.inside))) c.unless_named.ensures.other;
      survives = c.execute.ensures.survives;
    }
