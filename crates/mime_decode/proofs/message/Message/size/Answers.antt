use Rattle.std.proofs.Common.{ap}
use Rattle.std.specs.Prelude.{length}
use Rattle.mime_decode.proofs.MailLemmas.{holds_octets, holds_mail}
use Rattle.mime_decode.proofs.message.Message.size.Goals as goal

pub returns-clause-value : goal.returns-clause-value
returns-clause-value c = ap length (holds_octets (record { readable = c.self.invariant.0; tree_is = c.self.invariant.1; mail_is = c.self.view_is }))

pub returns-clause-mail : goal.returns-clause-mail
returns-clause-mail c = holds_mail (record { readable = c.self.invariant.0; tree_is = c.self.invariant.1; mail_is = c.self.view_is })
