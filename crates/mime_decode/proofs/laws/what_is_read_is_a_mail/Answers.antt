use Rattle.mime_decode.proofs.MailLemmas.{is_mail}
use Rattle.mime_decode.proofs.laws.what_is_read_is_a_mail.Goals as goal

pub returns : goal.returns
returns c = is_mail
