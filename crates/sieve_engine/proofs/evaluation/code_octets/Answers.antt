use Rattle.std.proofs.lemmas.Result.{err_from_is_err_and}
use Rattle.sieve_engine.proofs.evaluation.code_octets.Goals as goal

pub returns-in_err-write-clause-refused : goal.returns-in_err-write-clause-refused
returns-in_err-write-clause-refused c =
    let p = err_from_is_err_and c.from_residual-in_err-write.result c.from_residual-in_err-write.ensures.1 in
    rw (p.1, p.2) tt
