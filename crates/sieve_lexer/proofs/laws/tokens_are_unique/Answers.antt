use Rattle.std.proofs.Common.{length}
use Rattle.sieve_lexer.proofs.Once.{read_once, script_end}
use Rattle.sieve_lexer.proofs.laws.tokens_are_unique.Goals as goal

pub returns : goal.returns
returns c = λ s ts us p q.
    (read_once s (length s) (length s) (script_end s) (script_end s) ts us 0 p.0 q.0 p.1.0 p.1.1 q.1.0 q.1.1).0
