use Rattle.sieve_explain.proofs.Never.{always_digest, other_digest}
use Rattle.sieve_explain.proofs.laws.digests_have_digits.Goals as goal

pub returns-clause-digits : goal.returns-clause-digits
returns-clause-digits c = λ octets. always_digest octets

pub returns-clause-keys : goal.returns-clause-keys
returns-clause-keys c = λ octets key e. other_digest octets key e
