use Rattle.mail_matching.proofs.Pairs.{captures_after}
use Rattle.mail_matching.proofs.laws.captures_are_those_after_the_first_pair.Goals as goal

pub returns : goal.returns
returns c = captures_after
