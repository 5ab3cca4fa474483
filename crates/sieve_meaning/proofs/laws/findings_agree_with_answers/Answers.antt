use Rattle.mail_matching.proofs.QuestionLemmas.{found_holds}
use Rattle.sieve_meaning.proofs.laws.findings_agree_with_answers.Goals as goal

pub returns : goal.returns
returns c = found_holds
