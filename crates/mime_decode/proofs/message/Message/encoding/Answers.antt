use Rattle.std.proofs.Common.{◌≡◌, arith}
use Rattle.mime_decode.specs.Mail.{Part}
use Rattle.mime_decode.proofs.MailLemmas.{holds_number, holds_at}
use Rattle.mime_decode.proofs.message.Message.encoding.Goals as goal

pub encoding-requires : goal.encoding-requires
encoding-requires c = let number = holds_number (record { readable = c.self.invariant.0; tree_is = c.self.invariant.1; mail_is = c.self.view_is }) in omega (arith, number, c.requires)

pub returns : goal.returns
returns c = holds_at (λ (p : Part). c.encoding.result ≡ p.encoding) c.args.part (record { readable = c.self.invariant.0; tree_is = c.self.invariant.1; mail_is = c.self.view_is }) c.requires c.encoding.ensures
