use Rattle.std.proofs.Common.{◌≡◌, ◌∙◌, ap, codes, sym}
use Rattle.serde_json.specs.Data.{object, put}
use Rattle.serde_json.specs.View.{members_view}
use Rattle.serde_json.specs.Written.{has_float}
use Rattle.depot_batch.specs.Answers.{report_told, told_by}
use Rattle.depot_batch.specs.Said.{OfMembers, number_value}
use Rattle.depot_batch.proofs.Objects.{report_whole}
use Rattle.depot_batch.proofs.values.report_line.Goals as goal

pub text_line-requires : goal.text_line-requires
text_line-requires c =
    let members = members_view c.in-Members.members.entries in
    let is : report_told c.args.report.now ≡ OfMembers members = sym c.in_ok-told.ensures ∙ ap told_by c.in-Members.is in
    ap has_float (c.in_ok-value-in-Members.ensures ∙ ap (λ status. object (put (codes "status") (number_value status) members)) c.status_of.ensures)
    ∙ report_whole c.args.report.now members is
