use Rattle.mime_params.proofs.Beginnings.{gap_ends}
use Rattle.mime_params.proofs.beginning.gap_end.Goals as goal

pub returns-else-octet-eq40 : goal.returns-else-octet-eq40
returns-else-octet-eq40 c =
    gap_ends c.args.text.now c.after_gap-rest.result.now c.in_ok-octet._more.now c.in_ok-octet.octet c.after_gap-rest.ensures c.in_ok-octet.ensures c.if-octet-eq40.false
