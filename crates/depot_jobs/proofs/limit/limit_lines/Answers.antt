use Rattle.std.proofs.lemmas.Result.{err_from_is_err_and}
use Rattle.depot_jobs.proofs.limit.limit_lines.Goals as goal

pub returns-in_err-text-clause-refused : goal.returns-in_err-text-clause-refused
returns-in_err-text-clause-refused c =
    let p = err_from_is_err_and c.from_residual-in_err-text.result c.from_residual-in_err-text.ensures.1 in
    rw (p.1, p.2) tt
