use Rattle.std.proofs.Common.{refl}
use Rattle.sieve_lexer.proofs.Answered.{identifier_token, multi_line_token, no_word_token}
use Rattle.sieve_lexer.proofs.reader.word_at.Goals as goal

pub returns-in_err-end : goal.returns-in_err-end
returns-in_err-end c =
    rw c.from_residual.ensures (no_word_token c.args.script.now c.args.place c.in-Some.lines c.requires.first c.in-Some.ensures.line c.in_err-end.ensures.rest)

pub returns-in_ok-end : goal.returns-in_ok-end
returns-in_ok-end c =
    let bound = c.in_ok-end.ensures.bound in (
      refl,
      multi_line_token c.args.script.now c.args.place c.in-Some.lines c.in_ok-end.end c.requires.first c.in-Some.ensures.line
          c.in_ok-end.ensures.rest c.in-Some.ensures.bound.0 bound.0 bound.1,
    )

pub returns-in_default : goal.returns-in_default
returns-in_default c =
    (refl, identifier_token c.args.script.now c.args.place c.word_end-end.result c.requires.within c.requires.first c.in_default.ensures.line c.word_end-end.ensures)
