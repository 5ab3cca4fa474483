use Rattle.std.proofs.Common.{Some, arith, ap, ◌∙◌}
use Rattle.std.proofs.lemmas.Result.{IfOk-weaker}
use Rattle.serde_json.specs.Data.{depth}
use Rattle.serde_json.specs.Written.{compact_text, has_float}
use Rattle.catalog.specs.Rows.{row_of}
use Rattle.catalog.proofs.OutlineLemmas.{of_outline}
use Rattle.catalog.proofs.PlainLines.{message_plain}
use Rattle.catalog.proofs.line.message_line.Goals as goal

pub returns-clause-text : goal.returns-clause-text
returns-clause-text c = λ mail outlines.
    let plain = message_plain (row_of c.args.entry.now) mail c.args.stored.now in
    let is = c.in_ok-message_value.ensures ∙ of_outline (row_of c.args.entry.now) c.args.outline.now mail c.args.stored.now outlines in
    IfOk-weaker c.to_vec.result _ _ (λ line text. text (ap has_float is ∙ plain.whole) ∙ ap compact_text is) c.to_vec.ensures.text

pub returns-clause-read_back : goal.returns-clause-read_back
returns-clause-read_back c = λ mail outlines.
    let plain = message_plain (row_of c.args.entry.now) mail c.args.stored.now in
    let is = c.in_ok-message_value.ensures ∙ of_outline (row_of c.args.entry.now) c.args.outline.now mail c.args.stored.now outlines in
    IfOk-weaker c.to_vec.result _ _ (λ line read_back. read_back (omega (arith, ap depth is, plain.shallow)) ∙ ap (λ v. Some v) is) c.to_vec.ensures.reads_back
