use Rattle.std.proofs.Common.{◌∙◌}
use Rattle.mime_decode.proofs.MailLemmas.{holds_number, holds_mail}
use Rattle.mime_decode.proofs.message.Message.parts.Goals as goal

pub returns-clause-value : goal.returns-clause-value
returns-clause-value c = c.parts.ensures.parts ∙ holds_number (record { readable = c.self.invariant.0; tree_is = c.self.invariant.1; mail_is = c.self.view_is })

pub returns-clause-mail : goal.returns-clause-mail
returns-clause-mail c = holds_mail (record { readable = c.self.invariant.0; tree_is = c.self.invariant.1; mail_is = c.self.view_is })
