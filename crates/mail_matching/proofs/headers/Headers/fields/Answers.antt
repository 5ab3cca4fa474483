use Rattle.std.proofs.Common.{◌≡◌, ◌<◌, ◌+◌, [], refl, subst, ap, arith, length}
use Rattle.std.specs.Prelude.{slice_index_or}
use Rattle.mime_decode.specs.Mail.{Part}
use Rattle.mime_decode.proofs.MailLemmas.{at_part, tree_number}
use Rattle.mail_matching.proofs.Scopes.{header_at, headers_number}
use Rattle.mail_matching.proofs.headers.Headers.fields.Goals as goal

pub header-requires : goal.header-requires
header-requires c =
    let mail = c.self.inside.message.now in
    omega (
      arith,
      c.requires,
      ap length c.self.view_is,
      headers_number c.self.inside.first c.self.inside.number mail c.self.invariant.0,
      c.self.invariant.0,
      tree_number mail c.tree.ensures.mail,
      ap length c.tree.ensures.tree,
    )

pub returns : goal.returns
returns c =
    let mail = c.self.inside.message.now in
    let first = c.self.inside.first in
    let number = c.self.inside.number in
    let fields = c.by_name.result.now in
    let lt : c.args.place < number = omega (arith, c.requires, ap length c.self.view_is, headers_number first number mail c.self.invariant.0) in
    let at = at_part mail c.tree.ensures.mail (λ (p : Part). fields ≡ p.fields) (first + c.args.place) (omega (arith, lt, c.self.invariant.0))
    (λ d. let here = rw c.tree.ensures.tree at (c.header.ensures d) in rw (c.by_name.ensures.fields, here) refl) in
    subst (λ headers. fields ≡ slice_index_or headers c.args.place []) c.self.view_is (header_at first number mail c.self.invariant.0 c.args.place lt fields at)
