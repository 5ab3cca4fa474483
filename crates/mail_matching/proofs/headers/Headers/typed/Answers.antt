use Rattle.std.proofs.Common.{◌≡◌, ◌<◌, ◌+◌, ◌∙◌, [], refl, sym, subst, ap, arith, length}
use Rattle.std.specs.Prelude.{slice_index_or}
use Rattle.header_fields.specs.Header.{Header}
use Rattle.mime_params.specs.declared.encoding.TransferEncoding.TheVariants.{SevenBit}
use Rattle.mime_decode.specs.Mail.{Part}
use Rattle.mime_decode.proofs.MailLemmas.{at_part, tree_number}
use Rattle.mime_tree.specs.PartTree as tree
use Rattle.mime_tree.specs.TypeTexts.{AreTypeTexts}
use Rattle.mail_matching.proofs.Scopes.{header_at, headers_number}
use Rattle.mail_matching.proofs.headers.Headers.typed.Goals as goal

pub header-requires : goal.header-requires
header-requires c =
    let mail = c.self.inside.message.now in
    omega (
      arith,
      c.requires,
      ap length c.self.view_is,
      headers_number c.self.inside.first c.self.inside.number mail c.self.invariant.0,
      c.self.invariant.0,
      tree_number mail c.tree-tree.ensures.mail,
      ap length c.tree-tree.ensures.tree,
    )

pub type_texts-requires : goal.type_texts-requires
type_texts-requires c =
    let mail = c.self.inside.message.now in
    omega (
      arith,
      c.requires,
      ap length c.self.view_is,
      headers_number c.self.inside.first c.self.inside.number mail c.self.invariant.0,
      c.self.invariant.0,
      tree_number mail c.tree-tree.ensures.mail,
      ap length c.tree-tree.ensures.tree,
    )

pub new-requires : goal.new-requires
new-requires c =
    let d : tree.Part = record { depth = 0; below = 0; place = 0; raw = []; header = c.header.result.now; media = tree.text_plain; encoding = SevenBit } in
    subst (λ fields. AreTypeTexts fields c.type_texts.result.now) (sym (c.by_name.ensures.fields ∙ ap (λ (h : Header). h.fields) (c.header.ensures d))) (c.type_texts.ensures d)

pub returns : goal.returns
returns c =
    let mail = c.self.inside.message.now in
    let first = c.self.inside.first in
    let number = c.self.inside.number in
    let fields = c.by_name.result.now in
    let lt : c.args.place < number = omega (arith, c.requires, ap length c.self.view_is, headers_number first number mail c.self.invariant.0) in
    let at = at_part mail c.tree-tree.ensures.mail (λ (p : Part). fields ≡ p.fields) (first + c.args.place) (omega (arith, lt, c.self.invariant.0))
    (λ d. let here = rw c.tree-tree.ensures.tree at (c.header.ensures d) in rw (c.by_name.ensures.fields, here) refl) in
    c.new.ensures ∙ subst (λ headers. fields ≡ slice_index_or headers c.args.place []) c.self.view_is (header_at first number mail c.self.invariant.0 c.args.place lt fields at)
