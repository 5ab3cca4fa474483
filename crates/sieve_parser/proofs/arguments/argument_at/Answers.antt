use Rattle.std.proofs.Common.{[], ◌∷◌, length, refl, sym, ◌∙◌, ap, subst, arith, drop}
use Rattle.std.specs.Prelude.{slice_range}
use Rattle.std.proofs.lemmas.Result.{err_from_is_err_and}
use Rattle.sieve_lexer.specs.Values.{below_limit, number_value, string_value}
use Rattle.sieve_parser.specs.Lexemes.{lexeme_of, tag, number, string, lexemes}
use Rattle.sieve_parser.specs.Tree.{text, amount, label}
use Rattle.sieve_parser.specs.TokenMachine.{arguments, strings, expand}
use Rattle.sieve_parser.specs.View.{argument_tree}
use Rattle.sieve_parser.specs.Parsing.{IsNoArgument}
use Rattle.sieve_parser.proofs.Here.{token_here, here, nothing_here, string_here}
use Rattle.sieve_parser.proofs.ArgumentSteps.{no_argument, one_argument, list_argument}
use Rattle.sieve_parser.proofs.Walk.{walk}
use Rattle.sieve_parser.proofs.ArgumentSteps.{length_range, no_limit, number_is}
use Rattle.sieve_parser.proofs.arguments.argument_at.Goals as goal

pub returns-in_default : goal.returns-in_default
returns-in_default c = λ d f stack small lt. let past = nothing_here c.args.script.now c.args.tokens.now c.args.at (sym c.in_default.ensures) in absurd (omega arith)

pub text-text-requires-clause-forward : goal.text-text-requires-clause-forward
text-text-requires-clause-forward c =
    let token = token_here c.args.script.now c.args.tokens.now c.requires.tokens c.args.at c.in-Some.token (sym c.in-Some.ensures) in omega (arith, token.some)

pub text-text-requires-clause-within : goal.text-text-requires-clause-within
text-text-requires-clause-within c = (token_here c.args.script.now c.args.tokens.now c.requires.tokens c.args.at c.in-Some.token (sym c.in-Some.ensures)).within

pub split_at-requires : goal.split_at-requires
split_at-requires c =
    let token = token_here c.args.script.now c.args.tokens.now c.requires.tokens c.args.at c.in-Some.token (sym c.in-Some.ensures) in
    let long = length_range c.args.script.now c.in-Some.token.start c.in-Some.token.end token.within in
    omega (arith, ap length c.text-text.ensures, long, token.some)

pub unreachable-requires : goal.unreachable-requires
unreachable-requires c =
    let token = token_here c.args.script.now c.args.tokens.now c.requires.tokens c.args.at c.in-Some.token (sym c.in-Some.ensures) in
    no_limit (number_value (slice_range c.args.script.now c.in-Some.token.start c.in-Some.token.end)) (token.fits c.in-Number.is)
    (c.in_default-number_of.ensures ∙ ap (λ o. below_limit (number_value o)) c.text-text.ensures)

pub string_list-requires-clause-within : goal.string_list-requires-clause-within
string_list-requires-clause-within c = let h = here c.args.script.now c.args.tokens.now c.args.at c.in-Some.token (sym c.in-Some.ensures) in omega (arith, h.0)

pub returns-in_err-list-in-OpeningBracket : goal.returns-in_err-list-in-OpeningBracket
returns-in_err-list-in-OpeningBracket c = λ d f stack small.
    let ls = lexemes c.args.script.now c.args.tokens.now in
    let h = here c.args.script.now c.args.tokens.now c.args.at c.in-Some.token (sym c.in-Some.ensures) in
    let p = err_from_is_err_and c.from_residual-in_err-list-in-OpeningBracket.result c.from_residual-in_err-list-in-OpeningBracket.ensures.1 in
    rw (p.1, p.2) (λ b a. c.in_err-list-in-OpeningBracket.ensures d (arguments d f ∷ stack) small b
    (walk b ls c.args.at (arguments d f) stack d (strings d ∷ arguments d f ∷ []) a h.0
    (ap (expand (arguments d f)) (h.1 ∙ ap (λ m. lexeme_of m c.args.at (slice_range c.args.script.now c.in-Some.token.start c.in-Some.token.end)) c.in-OpeningBracket.is)) small))

pub returns-in_ok-name-in-Tag : goal.returns-in_ok-name-in-Tag
returns-in_ok-name-in-Tag c =
    let ls = lexemes c.args.script.now c.args.tokens.now in
    let octets = slice_range c.args.script.now c.in-Some.token.start c.in-Some.token.end in
    let h = here c.args.script.now c.args.tokens.now c.args.at c.in-Some.token (sym c.in-Some.ensures) in
    one_argument ls c.args.at (tag c.in_ok-name-in-Tag.name) (label c.in_ok-name-in-Tag.name) h.0 (h.1 ∙ ap (λ m. lexeme_of m c.args.at octets) c.in-Tag.is ∙ ap tag (sym (c.in_ok-name-in-Tag.ensures ∙ c.split_at.ensures.back ∙ ap (drop 1) c.text-text.ensures))) (λ d. refl) (λ d f. refl)

pub returns-in-Some-number_of : goal.returns-in-Some-number_of
returns-in-Some-number_of c =
    let ls = lexemes c.args.script.now c.args.tokens.now in
    let octets = slice_range c.args.script.now c.in-Some.token.start c.in-Some.token.end in
    let h = here c.args.script.now c.args.tokens.now c.args.at c.in-Some.token (sym c.in-Some.ensures) in
    one_argument ls c.args.at (number c.in-Some-number_of.number) (amount c.in-Some-number_of.number) h.0 (h.1 ∙ ap (λ m. lexeme_of m c.args.at octets) c.in-Number.is ∙ ap number (sym (number_is c.in-Some-number_of.number (number_value octets) (c.in-Some-number_of.ensures ∙ ap (λ o. below_limit (number_value o)) c.text-text.ensures)))) (λ d. refl) (λ d f. refl)

pub returns-in_ok-value-in-QuotedString : goal.returns-in_ok-value-in-QuotedString
returns-in_ok-value-in-QuotedString c =
    let ls = lexemes c.args.script.now c.args.tokens.now in
    let h = string_here c.args.script.now c.args.tokens.now c.args.at c.in-Some.token (sym c.in-Some.ensures) c.in-QuotedString.is in
    let value = c.in_ok-value-in-QuotedString.value in
    one_argument ls c.args.at (string value) (text value) h.0
    (h.1 ∙ ap string (sym (c.in_ok-value-in-QuotedString.ensures ∙ ap (λ o. string_value c.in-Some.token.kind o) c.text-text.ensures))) (λ d. refl) (λ d f. refl)

pub returns-in_ok-list-in-OpeningBracket : goal.returns-in_ok-list-in-OpeningBracket
returns-in_ok-list-in-OpeningBracket c =
    let ls = lexemes c.args.script.now c.args.tokens.now in
    let h = here c.args.script.now c.args.tokens.now c.args.at c.in-Some.token (sym c.in-Some.ensures) in
    let list = c.in_ok-list-in-OpeningBracket.list in
    list_argument ls c.args.at (argument_tree list.0) list.1 h.0
    (h.1 ∙ ap (λ m. lexeme_of m c.args.at (slice_range c.args.script.now c.in-Some.token.start c.in-Some.token.end)) c.in-OpeningBracket.is)
    (λ d stack small. c.in_ok-list-in-OpeningBracket.ensures d stack small)

pub returns-in_default-kind : goal.returns-in_default-kind
returns-in_default-kind c = λ d f stack small lt.
    let h = here c.args.script.now c.args.tokens.now c.args.at c.in-Some.token (sym c.in-Some.ensures) in
    let k = c.in_default-kind in
    subst IsNoArgument (sym h.1) (no_argument c.in-Some.token.kind c.args.at (slice_range c.args.script.now c.in-Some.token.start c.in-Some.token.end)
    k.not-Tag k.not-Number k.not-QuotedString k.not-MultiLineString k.not-OpeningBracket)
