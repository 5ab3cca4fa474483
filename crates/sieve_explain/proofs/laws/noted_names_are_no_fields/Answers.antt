use Rattle.sieve_explain.proofs.Never.{no_field_with_blank, no_field_with_colon}
use Rattle.sieve_explain.proofs.laws.noted_names_are_no_fields.Goals as goal

pub returns-clause-colon : goal.returns-clause-colon
returns-clause-colon c = λ text name e. no_field_with_colon text name e

pub returns-clause-blank : goal.returns-clause-blank
returns-clause-blank c = λ text name e. no_field_with_blank text name e
