use Rattle.mime_decode.proofs.Together.{mail_together}
use Rattle.mime_decode.proofs.laws.contents_fit_once_at_each_depth.Goals as goal

pub returns : goal.returns
returns c = mail_together
