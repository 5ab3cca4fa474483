use Rattle.std.proofs.Common.{length}
use Rattle.mail_rows.proofs.recursion.+least.Given as goal

abbrev pub decreases-least : goal.decreases-least
decreases-least l = length l.key.now
