use Rattle.header_fields.proofs.Lengths.{values_fit, body_start_within}
use Rattle.header_fields.proofs.header.Header.read.Goals as goal

pub invariant_of-result : goal.invariant_of-result
invariant_of-result c = rw (c.in_ok-fields.ensures.0, c.in_ok-fields.ensures.1) (values_fit c.args.text.now)

pub returns-clause-within : goal.returns-clause-within
returns-clause-within c = rw (c.in_ok-fields.ensures.1) (body_start_within c.args.text.now)
