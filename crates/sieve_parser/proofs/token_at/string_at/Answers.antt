use Rattle.std.proofs.Common.{arith, sym, ◌∙◌, ap}
use Rattle.sieve_lexer.specs.Values.{string_value}
use Rattle.sieve_parser.specs.Lexemes.{string}
use Rattle.sieve_parser.proofs.Here.{token_here, no_string, string_here, nothing_here}
use Rattle.sieve_parser.proofs.token_at.string_at.Goals as goal

pub returns-in_default : goal.returns-in_default
returns-in_default c = λ s lt is. let past = nothing_here c.args.script.now c.args.tokens.now c.args.at (sym c.in_default.ensures) in omega arith

pub text-requires-clause-forward : goal.text-requires-clause-forward
text-requires-clause-forward c =
    let token = token_here c.args.script.now c.args.tokens.now c.requires c.args.at c.in-Some.token (sym c.in-Some.ensures) in omega (arith, token.some)

pub text-requires-clause-within : goal.text-requires-clause-within
text-requires-clause-within c = (token_here c.args.script.now c.args.tokens.now c.requires c.args.at c.in-Some.token (sym c.in-Some.ensures)).within

pub returns-in_ok-string_of-in-QuotedString : goal.returns-in_ok-string_of-in-QuotedString
returns-in_ok-string_of-in-QuotedString c =
    let h = string_here c.args.script.now c.args.tokens.now c.args.at c.in-Some.token (sym c.in-Some.ensures) c.in-QuotedString.is in
    (h.0, h.1 ∙ ap string (sym (c.in_ok-string_of-in-QuotedString.ensures ∙ ap (λ o. string_value c.in-Some.token.kind o) c.text.ensures)))

pub returns-in_default-kind : goal.returns-in_default-kind
returns-in_default-kind c = no_string c.args.script.now c.args.tokens.now c.args.at c.in-Some.token (sym c.in-Some.ensures) c.in_default-kind.not-QuotedString c.in_default-kind.not-MultiLineString
