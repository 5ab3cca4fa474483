use Rattle.mail_matching.proofs.QuestionLemmas.{question_within}
use Rattle.mail_matching.proofs.laws.question_cost_is_within_the_message.Goals as goal

pub returns : goal.returns
returns c = question_within
