use Rattle.std.proofs.Common.{sym, refl}
use Rattle.sieve_lexer.proofs.Answered.{sign_token, no_sign_token}
use Rattle.sieve_lexer.proofs.reader.token_at.Goals as goal

pub returns-in_err-kind : goal.returns-in_err-kind
returns-in_err-kind c =
    rw c.from_residual.ensures (no_sign_token c.args.script.now c.args.place (sym c.if-begins_identifier.ensures) (sym c.if-is_ascii_digit.ensures.value)
    c.if-first-eq58.false c.if-first-eq34.false c.in_err-kind.ensures)

pub returns-in_ok-kind : goal.returns-in_ok-kind
returns-in_ok-kind c = (refl, sign_token c.args.script.now c.in_ok-kind.kind c.args.place c.requires c.in_ok-kind.ensures)
