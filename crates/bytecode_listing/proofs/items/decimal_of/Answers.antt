use Rattle.std.proofs.Common.{sym, ap, ◌∙◌}
use Rattle.bytecode_listing.specs.Readers.{decimal_on}
use Rattle.bytecode_listing.proofs.Numbers.{digit_stops, no_digit_left}
use Rattle.bytecode_listing.proofs.items.decimal_of.Goals as goal

pub returns-in_err-value : goal.returns-in_err-value
returns-in_err-value c =
    rw c.from_residual.ensures (sym (digit_stops c.digits.value c.in-Some.digit c.digits.rest.now c.in-Some.after.now c.in-Some.ensures (sym c.in_err-value.ensures)) ∙ c.digits.invariant.0)

pub returns : goal.returns
returns c =
    sym (no_digit_left c.digits.value c.digits.invariant.1) ∙ ap (decimal_on c.digits.value) (sym c.in_default.ensures) ∙ c.digits.invariant.0
