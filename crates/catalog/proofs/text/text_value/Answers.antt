use Rattle.std.proofs.Common.{sym, ap, ◌∙◌}
use Rattle.std.proofs.lemmas.Result.{IfOk-weaker}
use Rattle.serde_json.specs.Data.{string}
use Rattle.catalog.proofs.TextLemmas.{of_others, of_utf8}
use Rattle.catalog.proofs.text.text_value.Goals as goal

pub returns-in-Ok : goal.returns-in-Ok
returns-in-Ok c =
    let octets = c.args.octets.now in
    IfOk-weaker c.try_from_str.result _ _ (λ value is. is ∙ ap string c.in-Ok.ensures.cases.0 ∙ sym (of_utf8 octets c.in-Ok.ensures.cases.1)) c.try_from_str.ensures

pub returns-in-Err : goal.returns-in-Err
returns-in-Err c =
    let octets = c.args.octets.now in
    IfOk-weaker c.base64_value.result _ _ (λ value is. is ∙ sym (of_others octets c.in-Err.ensures.cases.0)) c.base64_value.ensures
