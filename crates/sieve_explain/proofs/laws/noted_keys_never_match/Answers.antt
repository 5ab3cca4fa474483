use Rattle.sieve_explain.proofs.Never.{capital_not_contained, capital_unmatched, long_not_contained, long_unmatched, lower_without}
use Rattle.sieve_explain.proofs.laws.noted_keys_never_match.Goals as goal

pub returns-clause-long : goal.returns-clause-long
returns-clause-long c = λ comparator value key few e. (long_unmatched comparator value key few e, long_not_contained comparator value key few e)

pub returns-clause-capital : goal.returns-clause-capital
returns-clause-capital c = λ value key low e. (capital_unmatched value key low e, capital_not_contained value key low e)

pub returns-clause-lower : goal.returns-clause-lower
returns-clause-lower c = λ text. lower_without text
