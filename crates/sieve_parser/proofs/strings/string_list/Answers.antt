use Rattle.std.proofs.Common.{[], ◌∷◌, ◌++◌, refl, sym, ◌∙◌, ap, subst, arith}
use Rattle.std.proofs.lemmas.Bool.{false≢true}
use Rattle.std.proofs.lemmas.Result.{err_from_is_err_and}
use Rattle.sieve_lexer.specs.declared.token.TokenKind.TheVariants.{Comma, ClosingBracket}
use Rattle.sieve_parser.specs.Grammar.{at_depth, more_strings_spelled}
use Rattle.sieve_parser.specs.Lexemes.{string, comma, closing_bracket, lexemes}
use Rattle.sieve_parser.specs.TokenMachine.{more_strings}
use Rattle.sieve_parser.specs.Parsing.{lexeme_at}
use Rattle.sieve_parser.proofs.Here.{kind_here, not_here}
use Rattle.sieve_parser.proofs.StringLists.{IsListSoFar, list_start, list_more, list_end, comma_read}
use Rattle.sieve_parser.proofs.Walk.{stuck_here}
use Rattle.sieve_parser.proofs.Wrong.{no_more_string}
use Rattle.sieve_parser.proofs.strings.string_list.Goals as goal

pub strings-init : goal.strings-init
strings-init c =
    let ls = lexemes c.args.script.now c.args.tokens.now in
    let first = c.in_ok-first.ensures in
    let s = c.first.inside.items.items in
    (omega (arith, first.0), rw c.new-rest.ensures.items (list_start ls c.args.at s first.0 (first.1 ∙ ap string (sym c.first.view_is))))

pub expected_string-requires-in-strings-clause-within : goal.expected_string-requires-in-strings-clause-within
expected_string-requires-in-strings-clause-within c =
    let here = kind_here c.args.script.now c.args.tokens.now c.strings.next Comma (c.strings-test.ensures.0 refl) in omega (arith, here.0)

pub returns-in_err-value : goal.returns-in_err-value
returns-in_err-value c = λ d stack small.
    let ls = lexemes c.args.script.now c.args.tokens.now in
    let here = kind_here c.args.script.now c.args.tokens.now c.strings.next Comma (c.strings-test.ensures.0 refl) in
    let p = err_from_is_err_and c.from_residual-in_err-value.result c.from_residual-in_err-value.ensures.1 in
    rw (p.1, p.2) (λ b a. c.in_err-value.ensures d stack b
    (comma_read ls c.args.at c.first.inside.items.items c.strings.next c.strings.rest.items c.strings.invariant.1 here.0 here.1.1 d stack small b a))

pub strings-smaller : goal.strings-smaller
strings-smaller c =
    let here = kind_here c.args.script.now c.args.tokens.now c.strings.next Comma (c.strings-test.ensures.0 refl) in
    omega (arith, here.0)

pub strings-preserved : goal.strings-preserved
strings-preserved c =
    let ls = lexemes c.args.script.now c.args.tokens.now in
    let here = kind_here c.args.script.now c.args.tokens.now c.strings.next Comma (c.strings-test.ensures.0 refl) in
    let value = c.in_ok-value.ensures in (
      omega (arith, value.0),
      rw c.in_ok-push.ensures.items (list_more ls c.args.at c.first.inside.items.items c.strings.next c.strings.rest.items c.in_ok-value.value
          c.strings.invariant.1 here.0 here.1.1 value.0 value.1),
    )

pub returns-then-stands : goal.returns-then-stands
returns-then-stands c = λ d stack small.
    let ls = lexemes c.args.script.now c.args.tokens.now in
    let here = kind_here c.args.script.now c.args.tokens.now c.strings.next ClosingBracket (c.if-stands.ensures.0 refl) in
    let so_far = subst (λ s. IsListSoFar ls c.args.at s c.strings.next c.strings.rest.items) c.first.view_is c.strings.invariant.1 in
    let whole = list_end ls c.args.at c.in_ok-first.first c.strings.next c.strings.rest.items so_far here.0 here.1.1 d stack small in
    (at_depth d (string c.in_ok-first.first) ∷ (more_strings_spelled d c.strings.rest.items ++ at_depth d closing_bracket ∷ []), (refl, whole.0, whole.1))

pub returns-else-stands : goal.returns-else-stands
returns-else-stands c = λ d stack small b a.
    let s = c.args.script.now in
    let ts = c.args.tokens.now in
    let ls = lexemes s ts in
    let next = c.strings.next in
    stuck_here b ls next (more_strings d) stack ((c.strings.invariant.1 d stack small).1 b a) c.strings.invariant.0
    (λ lt. no_more_string d (lexeme_at ls next)
    (not_here s ts next comma lt (λ k. false≢true (c.strings-test.ensures.1 k)) (λ q. cc))
    (not_here s ts next closing_bracket lt (λ k. false≢true (c.if-stands.ensures.1 k)) (λ q. cc)))
    (λ done. done)

pub returns-in_err-first : goal.returns-in_err-first
returns-in_err-first c = λ d stack small.
    let p = err_from_is_err_and c.from_residual.result c.from_residual.ensures.1 in
    rw (p.1, p.2) (λ b a. c.in_err-first.ensures d stack b a)
