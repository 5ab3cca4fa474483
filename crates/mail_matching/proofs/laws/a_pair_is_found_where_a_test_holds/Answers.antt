use Rattle.mail_matching.proofs.Pairs.{holds_where_found}
use Rattle.mail_matching.proofs.laws.a_pair_is_found_where_a_test_holds.Goals as goal

pub returns : goal.returns
returns c = holds_where_found
