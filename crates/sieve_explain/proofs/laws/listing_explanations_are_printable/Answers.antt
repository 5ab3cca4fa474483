use Rattle.sieve_explain.specs.Explaining.{listing_told}
use Rattle.sieve_explain.proofs.Printing.{listing_printed, readable, whole}
use Rattle.sieve_explain.proofs.laws.listing_explanations_are_printable.Goals as goal

pub returns-clause-whole : goal.returns-clause-whole
returns-clause-whole c = λ name listing place kind. whole name (listing_told name listing place kind) (listing_printed name listing place kind)

pub returns-clause-readable : goal.returns-clause-readable
returns-clause-readable c = λ name listing place kind p. readable name (listing_told name listing place kind) p (listing_printed name listing place kind)
