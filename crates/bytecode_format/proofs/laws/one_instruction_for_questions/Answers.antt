use Rattle.bytecode_format.proofs.QuestionLemmas.{counts_said_again, only_its_own, said_again}
use Rattle.bytecode_format.proofs.laws.one_instruction_for_questions.Goals as goal

pub returns-clause-question : goal.returns-clause-question
returns-clause-question c = said_again

pub returns-clause-counts : goal.returns-clause-counts
returns-clause-counts c = counts_said_again

pub returns-clause-only : goal.returns-clause-only
returns-clause-only c = only_its_own
