use Rattle.std.proofs.Common.{rules}
use Rattle.std.proofs.lemmas.Result.{err_from_is_err_and}
use Rattle.sieve_trace.proofs.Shown.{refused_first}
use Rattle.sieve_trace.proofs.printer.put_line.Goals as goal

pub returns-in_err-set-clause-put : goal.returns-in_err-set-clause-put
returns-in_err-set-clause-put g c =
    let p = err_from_is_err_and c.from_residual-in_err-set.result c.from_residual-in_err-set.ensures.1 in
    record { ok = search rules; err = rw (p.1, p.2) (refused_first _ _) }

pub returns-in_err-move_to-clause-put : goal.returns-in_err-move_to-clause-put
returns-in_err-move_to-clause-put g c =
    let p = err_from_is_err_and c.from_residual.result c.from_residual.ensures.1 in
    record { ok = search rules; err = rw (p.1, p.2) (refused_first _ _) }
