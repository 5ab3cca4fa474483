use Rattle.std.proofs.Common.{subst}
use Rattle.sieve_parser.specs.TokenMachine.{strings}
use Rattle.sieve_parser.specs.Parsing.{IsStringAt, lexeme_at}
use Rattle.sieve_parser.specs.Lexemes.{lexemes}
use Rattle.sieve_parser.proofs.Walk.{stuck_here}
use Rattle.sieve_parser.proofs.Wrong.{no_string_first}
use Rattle.sieve_parser.proofs.strings.expected_string.Goals as goal

pub returns-in-None : goal.returns-in-None
returns-in-None c = λ d stack b at.
    let ls = lexemes c.args.script.now c.args.tokens.now in
    let none = subst (λ o. IsStringAt ls c.args.at o) c.in-None.is c.in_ok-value.ensures in
    stuck_here b ls c.args.at (strings d) stack at c.requires.within (λ lt. no_string_first d (lexeme_at ls c.args.at) (λ s is. none s lt is)) (λ done. done)
