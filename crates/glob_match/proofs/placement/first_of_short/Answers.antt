use Rattle.std.proofs.Common.{ap, length}
use Rattle.glob_match.proofs.Plain.{empty_first}
use Rattle.glob_match.proofs.placement.first_of_short.Goals as goal

pub returns-in_default : goal.returns-in_default
returns-in_default c =
    empty_first c.args.comparator c.args.segment.now c.args.value.now (ap length c.in_default.ensures.tokens)
