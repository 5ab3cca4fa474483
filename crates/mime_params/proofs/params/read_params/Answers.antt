use Rattle.std.proofs.Common.{◌∙◌, ◌∷◌, ◌++◌, [], length, sym, ap, arith}
use Rattle.std.proofs.lemmas.List.{append_assoc}
use Rattle.mime_params.specs.MediaValue.{ReadParam, param_at, params_in}
use Rattle.mime_params.specs.Reading.{is_empty_param}
use Rattle.mime_params.proofs.Gaps.{gap_shorter}
use Rattle.mime_params.proofs.Lists.{params_empty, params_one, param_shorter}
use Rattle.mime_params.proofs.params.read_params.Goals as goal

pub params-smaller-then-is_empty_param : goal.params-smaller-then-is_empty_param
params-smaller-then-is_empty_param c = omega (arith, gap_shorter (length c.in-Some.more.now) c.in-Some.more.now, ap length c.after_gap-body.ensures, ap length c.in-Some.ensures)

pub params-preserved-then-is_empty_param : goal.params-preserved-then-is_empty_param
params-preserved-then-is_empty_param c =
    let body = c.after_gap-body.ensures in
    let here = c.in-Some.ensures ∙ ap (λ x. x ∷ c.in-Some.more.now) c.if-octet-ne59.false in
    let empty = ap is_empty_param (sym body) ∙ sym c.is_empty_param.ensures ∙ c.if-is_empty_param.true in
    ap (λ ps. c.params.items.items ++ ps) (ap params_in body ∙ sym (params_empty c.in-Some.more.now empty) ∙ ap params_in (sym here)) ∙ c.params.invariant

pub params-smaller : goal.params-smaller
params-smaller c =
    let body = c.after_gap-body.ensures in
    let read = rw c.in-Some-2.is at c.in_ok-param.ensures in
    let one : ReadParam = record { param = c.in-Some-2.param; rest = c.in-Some-2.after.now } in
    omega (arith, param_shorter c.in-Some.more.now one (ap param_at (sym body) ∙ read), ap length c.after_gap-rest.ensures, ap length c.in-Some.ensures)

pub params-preserved : goal.params-preserved
params-preserved c =
    let body = c.after_gap-body.ensures in
    let read = rw c.in-Some-2.is at c.in_ok-param.ensures in
    let one : ReadParam = record { param = c.in-Some-2.param; rest = c.in-Some-2.after.now } in
    let here = c.in-Some.ensures ∙ ap (λ x. x ∷ c.in-Some.more.now) c.if-octet-ne59.false in
    let some = ap is_empty_param (sym body) ∙ sym c.is_empty_param.ensures ∙ c.if-is_empty_param.false in
    rw c.in_ok-push.ensures.items
    (append_assoc c.params.items.items (c.in-Some-2.param ∷ []) (params_in c.after_gap-rest.result.now)
    ∙ ap (λ ps. c.params.items.items ++ ps) (ap (λ t. c.in-Some-2.param ∷ params_in t) c.after_gap-rest.ensures
    ∙ sym (params_one c.in-Some.more.now one some (ap param_at (sym body) ∙ read)) ∙ ap params_in (sym here)) ∙ c.params.invariant)
