use Rattle.sieve_explain.proofs.Printing.{explanation_printed, readable, whole}
use Rattle.sieve_explain.proofs.laws.explanations_are_printable.Goals as goal

pub returns-clause-whole : goal.returns-clause-whole
returns-clause-whole c = λ name script refusal text e. whole name text (explanation_printed name script refusal text e)

pub returns-clause-readable : goal.returns-clause-readable
returns-clause-readable c = λ name script refusal text p e. readable name text p (explanation_printed name script refusal text e)
