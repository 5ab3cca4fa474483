use Rattle.bytecode_listing.proofs.Short.{comment_length, share_length, refusal_length}
use Rattle.bytecode_listing.proofs.laws.comments_are_short.Goals as goal

pub returns-clause-meant : goal.returns-clause-meant
returns-clause-meant c = comment_length

pub returns-clause-shares : goal.returns-clause-shares
returns-clause-shares c = share_length

pub returns-clause-refusals : goal.returns-clause-refusals
returns-clause-refusals c = refusal_length
