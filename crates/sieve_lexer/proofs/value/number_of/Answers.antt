use Rattle.std.proofs.Common.{◌≡◌, ◌∙◌, ◌*◌, sym, ap, arith, take, drop}
use Rattle.sieve_lexer.specs.Values.{decimal_value, number_value, suffix_value, below_limit}
use Rattle.sieve_lexer.proofs.Numbers.{above_limit, limit_from, limit_some, limit_none, number_parts, suffix_first, suffix_none, suffix_above}
use Rattle.sieve_lexer.proofs.value.number_of.Goals as goal

pub returns-in_err-value : goal.returns-in_err-value
returns-in_err-value c =
    let text = c.args.text.now in
    let d = c.digits_end.result in
    let parts = number_parts text d c.digits_end.ensures in
    let digits = ap decimal_value c.split_at.ensures.front in
    let high = limit_none (decimal_value c.split_at.result.0.now) c.in_err-value.ensures in
    let product = suffix_above (decimal_value (take d text)) (drop d text) (omega (arith, digits, high)) in
    rw c.from_residual.ensures (sym (above_limit (number_value text) (omega (arith, parts, product))))

pub returns-in-Some : goal.returns-in-Some
returns-in-Some c =
    let text = c.args.text.now in
    let d = c.digits_end.result in
    let value : c.in_ok-value.value ≡ decimal_value (take d text) = limit_some _ _ c.in_ok-value.ensures ∙ ap decimal_value c.split_at.ensures.front in
    let suffix : c.unit_of.result ≡ suffix_value (drop d text) =
    c.unit_of.ensures ∙ sym (suffix_first c.split_at.result.1.now c.in-Some.unit.now (sym c.in-Some.ensures.value)) ∙ ap suffix_value c.split_at.ensures.back in
    let whole : c.in_ok-value.value * c.unit_of.result ≡ number_value text =
    ap (λ n. n * c.unit_of.result) value ∙ ap (λ n. decimal_value (take d text) * n) suffix ∙ sym (number_parts text d c.digits_end.ensures) in
    limit_from c.checked_mul.result (c.in_ok-value.value * c.unit_of.result) c.checked_mul.ensures ∙ ap below_limit whole

pub returns-in-None : goal.returns-in-None
returns-in-None c =
    let text = c.args.text.now in
    let d = c.digits_end.result in
    let value : c.in_ok-value.value ≡ decimal_value (take d text) = limit_some _ _ c.in_ok-value.ensures ∙ ap decimal_value c.split_at.ensures.front in
    let none = suffix_none c.split_at.result.1.now (sym c.in-None.ensures.value) in
    let suffix : suffix_value (drop d text) ≡ 1 = ap suffix_value (sym c.split_at.ensures.back) ∙ none in
    let whole : decimal_value (take d text) ≡ number_value text = omega (arith, number_parts text d c.digits_end.ensures, ap (λ n. decimal_value (take d text) * n) suffix) in
    c.in_ok-value.ensures ∙ ap below_limit (ap decimal_value c.split_at.ensures.front ∙ whole)
