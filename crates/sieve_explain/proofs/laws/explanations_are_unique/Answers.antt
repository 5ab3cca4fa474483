use Rattle.sieve_explain.proofs.OneText.{one_answer, one_remark, one_text}
use Rattle.sieve_explain.proofs.laws.explanations_are_unique.Goals as goal

pub returns-clause-texts : goal.returns-clause-texts
returns-clause-texts c = λ name script refusal text other. one_text c.tokens_are_unique.ensures c.parsed_trees_are_unique.ensures name script refusal text other

pub returns-clause-answers : goal.returns-clause-answers
returns-clause-answers c = λ name script found other.
    one_answer c.tokens_are_unique.ensures c.parsed_trees_are_unique.ensures c.refusals_are_unique.ensures c.parsed_scripts_have_no_fault.ensures name script found other

pub returns-clause-remarks : goal.returns-clause-remarks
returns-clause-remarks c = λ name script text other. one_remark c.tokens_are_unique.ensures name script text other
