use Rattle.std.proofs.Common.{◌≡◌, false, IfOk, IsOk, sym, arith}
use Rattle.std.specs.Cow.{cow_slice_items, IsBorrowedSlice}
use Rattle.mime_decode.specs.Content.{is_decoded}
use Rattle.mime_decode.specs.Mail.{Part}
use Rattle.mime_decode.proofs.MailLemmas.{holds_number, holds_at}
use Rattle.mime_decode.proofs.message.Message.content.Goals as goal

pub encoding-requires : goal.encoding-requires
encoding-requires c = let number = holds_number (record { readable = c.self.invariant.0; tree_is = c.self.invariant.1; mail_is = c.self.view_is }) in omega (arith, number, c.requires)

pub body-requires : goal.body-requires
body-requires c = let number = holds_number (record { readable = c.self.invariant.0; tree_is = c.self.invariant.1; mail_is = c.self.view_is }) in omega (arith, number, c.requires)

pub returns-clause-content : goal.returns-clause-content
returns-clause-content c =
    holds_at (λ (p : Part). IfOk c.decoded.result (λ content. cow_slice_items content ≡ p.content)) c.args.part
    (record { readable = c.self.invariant.0; tree_is = c.self.invariant.1; mail_is = c.self.view_is }) c.requires
    (λ d. let encoding = c.encoding.ensures d in let body = c.body.ensures d in rw (sym encoding, sym body) c.decoded.ensures.content)

pub returns-clause-lent : goal.returns-clause-lent
returns-clause-lent c =
    holds_at (λ (p : Part). is_decoded p.encoding ≡ false → IfOk c.decoded.result (λ content. IsBorrowedSlice content)) c.args.part
    (record { readable = c.self.invariant.0; tree_is = c.self.invariant.1; mail_is = c.self.view_is }) c.requires
    (λ d. let encoding = c.encoding.ensures d in rw (sym encoding) c.decoded.ensures.lent)

pub returns-clause-no_memory : goal.returns-clause-no_memory
returns-clause-no_memory c =
    holds_at (λ (p : Part). is_decoded p.encoding ≡ false → IsOk c.decoded.result) c.args.part
    (record { readable = c.self.invariant.0; tree_is = c.self.invariant.1; mail_is = c.self.view_is }) c.requires
    (λ d. let encoding = c.encoding.ensures d in rw (sym encoding) c.decoded.ensures.no_memory)
