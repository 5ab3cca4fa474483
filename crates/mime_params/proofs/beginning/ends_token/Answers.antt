use Rattle.mime_params.proofs.Beginnings.{ends_before, ends_none, is_some}
use Rattle.mime_params.proofs.beginning.ends_token.Goals as goal

pub returns-in-Some : goal.returns-in-Some
returns-in-Some c = λ some.
    ends_before c.args.text.now c.in-Some.rest.now c.in-Some._octets.now c.in-Some.ensures (is_some c.in-Some.rest.now c.is_empty.result c.is_empty.ensures some)

pub returns-in-None : goal.returns-in-None
returns-in-None c = λ some.
    ends_none c.args.text.now c.in-None.ensures (is_some c.args.text.now c.is_empty-in-None.result c.is_empty-in-None.ensures some)
