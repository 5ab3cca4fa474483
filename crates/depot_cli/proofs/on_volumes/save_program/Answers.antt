use Rattle.std.proofs.Common.{inl, inr, refl}
use Rattle.std.proofs.lemmas.Result.{err_from_is_err_and}
use Rattle.depot_cli.proofs.on_volumes.save_program.Goals as goal

pub returns-in_err-make_file-in-Some-clause-unsaved :
    goal.returns-in_err-make_file-in-Some-clause-unsaved
returns-in_err-make_file-in-Some-clause-unsaved g c =
    let refused = c.from_residual-in_err-make_file-in-Some in
    let p = err_from_is_err_and refused.result refused.ensures.1 in
    let all = c.in_ok-program.ensures in
    rw (p.1, p.2) (inr (inr (c.in-Some.program.items, (rw c.in-Some.is at all.done, all.sound), c.in_err-make_file-in-Some.ensures.err)))

pub returns-in_err-program-clause-unsaved : goal.returns-in_err-program-clause-unsaved
returns-in_err-program-clause-unsaved g c =
    let p = err_from_is_err_and c.from_residual.result c.from_residual.ensures.1 in
    let all = c.in_err-program.ensures in
    rw (p.1, p.2) (inr (inl ((all.which, all.cause, record { same = all.unchanged; sound = all.sound }), refl)))

pub returns-in-None-clause-unsaved : goal.returns-in-None-clause-unsaved
returns-in-None-clause-unsaved g c =
    let all = c.in_ok-program.ensures in
    inl (refl, (rw c.in-None.is at all.done, all.sound), refl)
