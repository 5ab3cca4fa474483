use Rattle.std.proofs.Common.{refl, sym, ◌∙◌, ap, length}
use Rattle.std.proofs.lemmas.Bool.{eqb-false}
use Rattle.mime_tree.proofs.Quiet.{quiet_to_end, quiet_to_dashes}
use Rattle.mime_tree.proofs.run.quiet_run.Goals as goal

pub returns-in_default : goal.returns-in_default
returns-in_default c =
    let some = eqb-false (length c.args.text.now) 0 (sym c.is_empty.ensures ∙ c.if-is_empty.false) in
    (refl, quiet_to_end c.args.text.now (λ e. some (ap length e)) c.requires c.in_default.ensures)

pub returns : goal.returns
returns c = (refl, quiet_to_dashes c.args.text.now c.in-Some.feed c.before_break.result c.requires c.in-Some.ensures c.before_break.ensures)
