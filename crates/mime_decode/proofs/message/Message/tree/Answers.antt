use Rattle.std.proofs.Common.{sym, ap, ◌∙◌}
use Rattle.mime_tree.specs.PartTree.{tree_of}
use Rattle.mime_decode.specs.Mail.{mail_of}
use Rattle.mime_decode.proofs.MailLemmas.{holds_octets}
use Rattle.mime_decode.proofs.message.Message.tree.Goals as goal

pub returns-clause-tree : goal.returns-clause-tree
returns-clause-tree c = c.self.invariant.1 ∙ ap tree_of (holds_octets (record { readable = c.self.invariant.0; tree_is = c.self.invariant.1; mail_is = c.self.view_is }))

pub returns-clause-mail : goal.returns-clause-mail
returns-clause-mail c = sym c.self.view_is ∙ ap mail_of (holds_octets (record { readable = c.self.invariant.0; tree_is = c.self.invariant.1; mail_is = c.self.view_is }))
