use Rattle.sieve_explain.specs.Explaining.{notes_told}
use Rattle.sieve_explain.proofs.Printing.{readable, whole}
use Rattle.sieve_explain.proofs.laws.remarks_are_printable.Goals as goal

pub returns-clause-whole : goal.returns-clause-whole
returns-clause-whole c = λ name script text it. whole name text (notes_told script it.0, it.2)

pub returns-clause-readable : goal.returns-clause-readable
returns-clause-readable c = λ name script text p it. readable name text p (notes_told script it.0, it.2)
