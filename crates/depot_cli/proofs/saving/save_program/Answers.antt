use Rattle.std.proofs.Common.{inl, inr, refl}
use Rattle.std.proofs.lemmas.Result.{err_from_is_err_and}
use Rattle.depot_cli.proofs.saving.save_program.Goals as goal

pub returns-in_err-make_file-in-Some-clause-unsaved :
    goal.returns-in_err-make_file-in-Some-clause-unsaved
returns-in_err-make_file-in-Some-clause-unsaved g c =
    let refused = c.from_residual-in_err-make_file-in-Some in
    let p = err_from_is_err_and refused.result refused.ensures.1 in
    rw (p.1, p.2) (inr (inr (
      c.in-Some.program.items,
      λ clean. (rw c.in-Some.is at (c.in_ok-program.ensures.done clean), c.in_ok-program.ensures.unchanged clean),
      c.in_err-make_file-in-Some.ensures.err,
    )))

pub returns-in_err-program-clause-unsaved : goal.returns-in_err-program-clause-unsaved
returns-in_err-program-clause-unsaved g c =
    let p = err_from_is_err_and c.from_residual.result c.from_residual.ensures.1 in
    let all = c.in_err-program.ensures in
    rw (p.1, p.2) (inr (inl ((all.which, λ clean. (all.refused clean, all.cause clean, all.unchanged clean)), refl)))
