use Rattle.std.proofs.Common.{arith, sym, ◌∙◌, ap}
use Rattle.sieve_parser.specs.Lexemes.{identifier}
use Rattle.sieve_parser.proofs.Here.{token_here, no_identifier, identifier_here, nothing_here}
use Rattle.sieve_parser.proofs.token_at.identifier_at.Goals as goal

pub returns-in_default : goal.returns-in_default
returns-in_default c = λ n name lt is. let past = nothing_here c.args.script.now c.args.tokens.now c.args.at (sym c.in_default.ensures) in omega arith

pub text-requires-clause-forward : goal.text-requires-clause-forward
text-requires-clause-forward c =
    let token = token_here c.args.script.now c.args.tokens.now c.requires c.args.at c.in-Some.token (sym c.in-Some.ensures) in omega (arith, token.some)

pub text-requires-clause-within : goal.text-requires-clause-within
text-requires-clause-within c = (token_here c.args.script.now c.args.tokens.now c.requires c.args.at c.in-Some.token (sym c.in-Some.ensures)).within

pub returns-in_ok-owned-in-Identifier : goal.returns-in_ok-owned-in-Identifier
returns-in_ok-owned-in-Identifier c =
    let h = identifier_here c.args.script.now c.args.tokens.now c.args.at c.in-Some.token (sym c.in-Some.ensures) c.in-Identifier.is in
    (h.0, h.1 ∙ ap (identifier c.args.at) (sym (c.in_ok-owned-in-Identifier.ensures ∙ c.text.ensures)))

pub returns-in_default-kind : goal.returns-in_default-kind
returns-in_default-kind c = no_identifier c.args.script.now c.args.tokens.now c.args.at c.in-Some.token (sym c.in-Some.ensures) c.in_default-kind.not-Identifier
