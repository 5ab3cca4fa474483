use Rattle.std.proofs.Common.{arith, length}
use Rattle.sieve_lexer.proofs.Once.{read_once, script_end}
use Rattle.sieve_lexer.proofs.laws.tokens_have_no_fault.Goals as goal

pub returns : goal.returns
returns c = λ s ts place p q.
    let same = (read_once s (length s) place (script_end s) (record { no_separator = q.no_separator; no_token = q.no_token })
    ts q.tokens 0 p.0 q.end p.1.0 p.1.1 q.before q.gap).1 in
    let within = q.within in omega arith
