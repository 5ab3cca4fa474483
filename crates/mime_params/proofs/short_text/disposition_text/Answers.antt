use Rattle.std.proofs.Common.{◌∙◌, ap}
use Rattle.mime_params.specs.MediaValue.{disposition_name}
use Rattle.mime_params.proofs.Naming.{name_written, no_name}
use Rattle.mime_params.proofs.short_text.disposition_text.Goals as goal

pub returns-in_default : goal.returns-in_default
returns-in_default c = ap disposition_name (c.from_vec.ensures ∙ c.new.ensures.items) ∙ no_name c.args.text.now c.in_default.ensures

pub returns : goal.returns
returns c =
    ap disposition_name (c.from_vec-2.ensures ∙ c.in_ok-to_vec.ensures.items_if_clones_equal (λ x y same. same))
    ∙ name_written c.args.text.now c.in-Some.name.now c.in-Some.ensures
