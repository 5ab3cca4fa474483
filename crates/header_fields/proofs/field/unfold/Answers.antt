use Rattle.std.proofs.Common.{◌≡◌, ◌∙◌, ap, length, sym}
use Rattle.std.specs.Cow.{cow_slice_items}
use Rattle.std.proofs.lemmas.Result.{IfOk-weaker}
use Rattle.header_fields.specs.Fields.{Field}
use Rattle.header_fields.specs.Header.{after_colon, beginning_of, without_breaks}
use Rattle.header_fields.proofs.Starts.{beginning_all, value_within}
use Rattle.header_fields.proofs.field.unfold.Goals as goal

pub returns-clause-value : goal.returns-clause-value
returns-clause-value c =
    let lines = c.field.inside.lines.now in
    let value = ap (λ (f : Field). f.value) c.field.view_is in
    let all = ap (beginning_of (length lines)) (sym value) ∙ beginning_all (length lines) (without_breaks (after_colon lines)) (value_within lines) ∙ value in
    IfOk-weaker c.unfold_start.result (λ start. cow_slice_items start ≡ beginning_of (length lines) c.args.field.now.value) (λ start. cow_slice_items start ≡ c.args.field.now.value) (λ start is. is ∙ all)
    c.unfold_start.ensures.start
