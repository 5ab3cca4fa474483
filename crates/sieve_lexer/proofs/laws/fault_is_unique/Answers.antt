use Rattle.sieve_lexer.proofs.Once.{read_once}
use Rattle.sieve_lexer.proofs.laws.fault_is_unique.Goals as goal

pub returns : goal.returns
returns c = λ s place other p q.
    (read_once s place other (record { no_separator = p.no_separator; no_token = p.no_token })
    (record { no_separator = q.no_separator; no_token = q.no_token }) p.tokens q.tokens 0 p.end q.end p.before p.gap q.before q.gap).1
