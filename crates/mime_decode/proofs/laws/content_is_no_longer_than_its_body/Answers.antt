use Rattle.mime_decode.proofs.Contents.{content_fits}
use Rattle.mime_decode.proofs.laws.content_is_no_longer_than_its_body.Goals as goal

pub returns : goal.returns
returns c = content_fits
