use Rattle.std.proofs.Common.{◌∙◌, List, ap}
use Rattle.std.specs.Prelude.{Option}
use Rattle.sieve_check.specs.ReasonView.{refused_view}
use Rattle.sieve_lexer.specs.declared.token.Token.{Token}
use Rattle.sieve_explain.specs.Explaining.{argument_blanks, bare_word, fault_blanks, word_or}
use Rattle.sieve_explain.specs.Private.{blanks_of}
use Rattle.sieve_explain.specs.Sentences.{Blanks}
use Rattle.sieve_explain.proofs.reasons.fault_sentence.Goals as goal

pub returns : goal.returns
unfolding fault_blanks
returns c =
    let script = c.args.script.now in
    let found = refused_view c.args.found in
    c.word_or.ensures
    ∙ ap (λ (o : Option Token). word_or script o (blanks_of c.argument_sentence-other.result)) c.bare_word.ensures
    ∙ ap (λ (b : Blanks). word_or script (bare_word script c.args.tokens.now found) b)
    (c.argument_sentence-other.ensures ∙ ap (λ (l : List Token). argument_blanks script l found) c.tokens_behind.ensures)
