use Rattle.std.proofs.Common.{◌∙◌, ap}
use Rattle.sieve_parser.specs.Lexemes.{lexemes}
use Rattle.sieve_parser.proofs.Unique.{script_unique}
use Rattle.sieve_parser.proofs.laws.parsed_trees_are_unique.Goals as goal

pub returns : goal.returns
returns c = λ script cs ds p q.
    let same = c.tokens_are_unique.ensures script p.1.0 q.1.0 p.1.1.0 q.1.1.0 in
    script_unique (lexemes script p.1.0) cs ds p.1.1.1 (ap (lexemes script) same ∙ q.1.1.1)
