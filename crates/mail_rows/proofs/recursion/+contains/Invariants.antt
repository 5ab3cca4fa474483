use Rattle.std.proofs.Common.{length}
use Rattle.mail_rows.proofs.recursion.+contains.Given as goal

abbrev pub decreases-contains : goal.decreases-contains
decreases-contains l = length l.value.now
