use Rattle.std.proofs.Common.{[], sym, subst, arith}
use Rattle.std.proofs.lemmas.Result.{err_from_is_err_and}
use Rattle.sieve_parser.specs.Lexemes.{lexemes}
use Rattle.sieve_parser.specs.Scripts.{IsParsed}
use Rattle.sieve_parser.specs.View.{commands_tree}
use Rattle.sieve_parser.proofs.Extent.{few_lexemes}
use Rattle.sieve_parser.proofs.Parsed.{whole, at_start, not_ended, whole_parsed, fault_refused, refused_by_grammar}
use Rattle.sieve_parser.proofs.Walk.{length-lexemes}
use Rattle.sieve_parser.proofs.parser.parse_tokens.Goals as goal

pub commands-requires-clause-short : goal.commands-requires-clause-short
commands-requires-clause-short c = omega (arith, few_lexemes c.args.script.now c.args.tokens.now c.requires.tokens, c.requires.short)

pub returns-in_err-commands-clause-grammar : goal.returns-in_err-commands-clause-grammar
returns-in_err-commands-clause-grammar c =
    let s = c.args.script.now in
    let ts = c.args.tokens.now in
    let p = err_from_is_err_and c.from_residual.result c.from_residual.ensures.1 in
    rw (p.1, p.2) (fault_refused s ts c.in_err-commands.field-0.0 (c.in_err-commands.ensures [] whole (at_start (lexemes s ts))))

pub returns-in_err-commands-clause-refused : goal.returns-in_err-commands-clause-refused
returns-in_err-commands-clause-refused c =
    let s = c.args.script.now in
    let ts = c.args.tokens.now in
    let p = err_from_is_err_and c.from_residual.result c.from_residual.ensures.1 in
    let fault = fault_refused s ts c.in_err-commands.field-0.0 (c.in_err-commands.ensures [] whole (at_start (lexemes s ts))) in
    rw (p.1, p.2) (refused_by_grammar s ts c.in_err-commands.field-0.0 c.requires.short c.requires.tokens fault)

pub returns-then-next-tokens-clause-grammar : goal.returns-then-next-tokens-clause-grammar
returns-then-next-tokens-clause-grammar c =
    let s = c.args.script.now in
    let ts = c.args.tokens.now in
    let ls = lexemes s ts in
    let read = c.in_ok-commands.ensures [] in
    not_ended ls c.in_ok-commands.next (read.2 whole (at_start ls)) read.1 (omega (arith, length-lexemes s 0 ts))

pub returns-then-next-tokens-clause-refused : goal.returns-then-next-tokens-clause-refused
returns-then-next-tokens-clause-refused c =
    let s = c.args.script.now in
    let ts = c.args.tokens.now in
    let ls = lexemes s ts in
    let read = c.in_ok-commands.ensures [] in
    let fault = not_ended ls c.in_ok-commands.next (read.2 whole (at_start ls)) read.1 (omega (arith, length-lexemes s 0 ts)) in
    (c.requires.short, (ts, (c.requires.tokens, fault)))

pub of-requires : goal.of-requires
of-requires c =
    let s = c.args.script.now in
    let ts = c.args.tokens.now in
    let read = c.in_ok-commands.ensures [] in (
      s,
      whole_parsed s ts c.in_ok-commands.next (commands_tree c.in_ok-commands.commands.items) c.requires.short c.requires.tokens read.0 (read.2 whole (at_start (lexemes s ts)))
          (omega (arith, length-lexemes s 0 ts)),
    )

pub returns-clause-parsed : goal.returns-clause-parsed
returns-clause-parsed c =
    let s = c.args.script.now in
    let ts = c.args.tokens.now in
    let read = c.in_ok-commands.ensures [] in
    let parsed = whole_parsed s ts c.in_ok-commands.next (commands_tree c.in_ok-commands.commands.items) c.requires.short c.requires.tokens read.0 (read.2 whole (at_start (lexemes s ts)))
    (omega (arith, length-lexemes s 0 ts)) in
    subst (λ cs. IsParsed s (commands_tree cs)) (sym c.of.ensures) parsed
