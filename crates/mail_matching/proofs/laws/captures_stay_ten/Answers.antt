use Rattle.mail_matching.proofs.QuestionLemmas.{answer_ten}
use Rattle.mail_matching.proofs.laws.captures_stay_ten.Goals as goal

pub returns : goal.returns
returns c = answer_ten
