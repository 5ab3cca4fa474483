use Rattle.std.proofs.Common.{List, subst, sym}
use Rattle.sieve_lexer.specs.Tokens.{AreTokens, IsLexicalRefusal}
use Rattle.sieve_lexer.specs.declared.token.Token.{Token}
use Rattle.sieve_lexer.specs.declared.error.LexicalError.{LexicalError}
use Rattle.sieve_explain.proofs.NoteLemmas.{if_ok_more}
use Rattle.sieve_explain.proofs.explaining.remarks_on.Goals as goal

pub unreachable-requires-in-Err-Lexical : goal.unreachable-requires-in-Err-Lexical
unreachable-requires-in-Err-Lexical c =
    let script = c.args.script.now in
    let tokens = c.requires.1.1 in
    let refused = subst (λ (e : LexicalError). IsLexicalRefusal script e) c.in-Err-Lexical.field-0-is c.in-Err-Lexical.ensures.refused in
    c.tokens_have_no_fault.ensures script tokens.0 c.in-Err-Lexical.field-0-0 tokens.1.0 refused.1

pub returns-in-Ok : goal.returns-in-Ok
returns-in-Ok c =
    let script = c.args.script.now in
    let are : AreTokens script c.deref.result.now = subst (λ (l : List Token). AreTokens script l) (sym c.deref.ensures.value) c.in-Ok.ensures.tokens.1 in
    if_ok_more c.notes_told.result (λ text is. (c.deref.result.now, are, is)) c.notes_told.ensures
