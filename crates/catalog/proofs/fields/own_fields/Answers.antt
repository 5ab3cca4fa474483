use Rattle.std.proofs.Common.{◌≡◌, ◌<◌, ℕ, List, length, ap, arith, refl}
use Rattle.mime_decode.specs.Mail.{Part}
use Rattle.mime_decode.proofs.MailLemmas.{at_part, tree_number}
use Rattle.mime_tree.specs.PartTree.{parts_of, tree_of}
use Rattle.catalog.proofs.FieldLemmas.{of_first_part}
use Rattle.catalog.proofs.fields.own_fields.Goals as goal

tree_some : (octets : List ℕ) → 0 < length (tree_of octets)
unfolding parts_of
tree_some octets = omega arith

pub header-requires : goal.header-requires
header-requires c = omega (arith, tree_some c.args.message.now.octets, ap length c.tree.ensures.tree)

pub returns : goal.returns
returns c =
    let mail = c.args.message.now in
    let fields = c.fields.result.now in
    let some : 0 < length mail.parts = omega (arith, tree_some mail.octets, tree_number mail c.tree.ensures.mail) in
    let at = at_part mail c.tree.ensures.mail (λ (p : Part). fields ≡ p.fields) 0 some
    (λ d. let here = rw c.tree.ensures.tree at (c.header.ensures d) in rw (c.fields.ensures.fields, here) refl) in
    of_first_part fields mail.parts some at
