use Rattle.std.proofs.Common.{sym, refl}
use Rattle.sieve_lexer.proofs.Answered.{number_token, no_number_token}
use Rattle.sieve_lexer.proofs.reader.number_at.Goals as goal

pub returns-in_err-number_of : goal.returns-in_err-number_of
returns-in_err-number_of c =
    rw c.from_residual.ensures (no_number_token c.args.script.now c.args.place c.digits_end-digits.result c.suffix_end-end.result
    c.requires.within c.requires.first c.digits_end-digits.ensures c.suffix_end-end.ensures.suffix c.suffix_end-end.ensures.longest (sym c.in_err-number_of.ensures))

pub returns : goal.returns
returns c = (
  refl,
  number_token c.args.script.now c.args.place c.digits_end-digits.result c.suffix_end-end.result c.in_ok-number_of.field-0
      c.requires.within c.requires.first c.digits_end-digits.ensures c.suffix_end-end.ensures.suffix c.suffix_end-end.ensures.longest
      c.suffix_end-end.ensures.bound (sym c.in_ok-number_of.ensures),
)
