use Rattle.mime_params.proofs.Beginnings.{settled_disposition}
use Rattle.mime_params.proofs.beginning.settles_disposition.Goals as goal

pub returns : goal.returns
returns c = λ ends. settled_disposition c.args.start.now c.in-Some.name.now c.in-Some.ensures (c.ends_token.ensures ends)
