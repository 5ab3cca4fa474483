use Rattle.std.proofs.Common.{◌∙◌, ◌∷◌, length, sym, ap, arith}
use Rattle.mime_params.specs.MediaValue.{ReadParam, param_at, params_in}
use Rattle.mime_params.specs.Reading.{is_empty_param}
use Rattle.mime_params.proofs.Gaps.{gap_shorter}
use Rattle.mime_params.proofs.Lists.{params_empty, params_one}
use Rattle.mime_params.proofs.lent.first_param.Goals as goal

pub params-smaller : goal.params-smaller
params-smaller c = omega (arith, gap_shorter (length c.in-Some.more.now) c.in-Some.more.now, ap length c.after_gap-body.ensures, ap length c.in-Some.ensures)

pub params-preserved : goal.params-preserved
params-preserved c =
    let body = c.after_gap-body.ensures in
    let here = c.in-Some.ensures ∙ ap (λ x. x ∷ c.in-Some.more.now) c.if-octet-ne59.false in
    let empty = ap is_empty_param (sym body) ∙ sym c.is_empty_param.ensures ∙ c.if-is_empty_param.true in
    ap params_in body ∙ sym (params_empty c.in-Some.more.now empty) ∙ ap params_in (sym here) ∙ c.params.invariant

pub returns-else-is_empty_param : goal.returns-else-is_empty_param
returns-else-is_empty_param c =
    let body = c.after_gap-body.ensures in
    let one : ReadParam = record { param = c.in_ok-param.param; rest = c.in_ok-param.after.now } in
    let here = c.in-Some.ensures ∙ ap (λ x. x ∷ c.in-Some.more.now) c.if-octet-ne59.false in
    let some = ap is_empty_param (sym body) ∙ sym c.is_empty_param.ensures ∙ c.if-is_empty_param.false in
    sym c.params.invariant ∙ ap params_in here
    ∙ params_one c.in-Some.more.now one some (ap param_at (sym body) ∙ c.in_ok-param.ensures)
    ∙ ap (λ t. c.in_ok-param.param ∷ params_in t) (sym c.after_gap.ensures)
