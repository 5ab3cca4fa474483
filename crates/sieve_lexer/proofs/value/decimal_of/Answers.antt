use Rattle.std.proofs.Common.{◌+◌, sym, ap, arith}
use Rattle.std.proofs.lemmas.List.{take_all}
use Rattle.sieve_lexer.specs.Values.{decimal_value}
use Rattle.sieve_lexer.proofs.Numbers.{above_limit, prefix_grows, digit_more, limit_here}
use Rattle.sieve_lexer.proofs.value.decimal_of.Goals as goal

pub returns-in_err-checked_mul : goal.returns-in_err-checked_mul
returns-in_err-checked_mul c =
    let xs = c.args.digits.now in
    rw c.from_residual.ensures (sym (above_limit (decimal_value xs)
    (omega (arith, c.in_err-checked_mul.ensures, digit_more xs c.loop-digit.digit-index (omega arith), prefix_grows (c.loop-digit.digit-index + 1) xs))))

pub returns-in_err-value : goal.returns-in_err-value
returns-in_err-value c =
    let xs = c.args.digits.now in
    rw c.from_residual-in_err-value.ensures (sym (above_limit (decimal_value xs)
    (omega (arith, c.in_err-value.ensures, digit_more xs c.loop-digit.digit-index (omega arith), prefix_grows (c.loop-digit.digit-index + 1) xs))))

pub returns : goal.returns
returns c =
    let xs = c.args.digits.now in
    let whole = ap decimal_value (take_all c.loop-digit.digit-index xs (omega arith)) in
    limit_here (decimal_value xs) c.loop-digit.value (omega (arith, c.loop-digit.invariant.0, whole)) c.loop-digit.invariant.1
