use Rattle.std.proofs.Common.{ap, map, ◌∙◌}
use Rattle.std.proofs.lemmas.Result.{IfOk-weaker}
use Rattle.part_store.specs.Standing.{listed}
use Rattle.serde_json.specs.Written.{has_float}
use Rattle.depot_batch.specs.Said.{value_line, with_status}
use Rattle.depot_batch.specs.declared.outcome.Outcome.TheVariants.{Done}
use Rattle.depot_batch.proofs.Objects.{filed_whole}
use Rattle.depot_batch.proofs.values.filed_line.Goals as goal

pub text_line-requires : goal.text_line-requires
text_line-requires c =
    ap has_float (c.in_ok-value.ensures ∙ ap (with_status Done) c.in_ok-members.ensures) ∙ filed_whole (map listed c.args.rows.now)

pub returns : goal.returns
returns c =
    IfOk-weaker c.text_line.result _ _ (λ line is. is ∙ ap value_line (c.in_ok-value.ensures ∙ ap (with_status Done) c.in_ok-members.ensures)) c.text_line.ensures
