use Rattle.std.proofs.Common.{◌-◌}
use Rattle.mail_rows.proofs.tree.+after_parts.Given as goal

abbrev pub decreases-after_parts : goal.decreases-after_parts
decreases-after_parts l = 32 - l.depth
