use Rattle.std.proofs.Common.{◌≡◌, ◌∙◌, ap, arith, length}
use Rattle.mime_decode.specs.Mail.{Part}
use Rattle.mime_tree.specs.PartTree.{without_params}
use Rattle.depot_actions.specs.Drafts.{name_of}
use Rattle.mime_params.specs.MediaValue.{media_text}
use Rattle.mime_decode.proofs.MailLemmas.{at_part, tree_number}
use Rattle.depot_actions.proofs.stored_part.StoredPart.read.Goals as goal

pub part_name-requires : goal.part_name-requires
part_name-requires c = omega (arith, c.requires, tree_number c.args.message.now c.tree-tree.ensures.mail, ap length c.tree-tree.ensures.tree)

pub media_without_params-requires : goal.media_without_params-requires
media_without_params-requires c = omega (arith, c.requires, tree_number c.args.message.now c.tree-tree.ensures.mail, ap length c.tree-tree.ensures.tree)

pub returns : goal.returns
returns c = λ d.
    let mail = c.args.message.now in
    let media = at_part mail c.tree-tree.ensures.mail (λ (p : Part). c.media_without_params.result.now ≡ without_params p.media) c.args.part c.requires
    (λ e. rw c.tree-tree.ensures.tree at (c.media_without_params.ensures e)) d in
    record {
      name = at_part mail c.tree-tree.ensures.mail (λ (p : Part). c.in_ok-part_name.field-0.items ≡ name_of p) c.args.part c.requires
          (λ e. rw c.tree-tree.ensures.tree at (c.in_ok-part_name.ensures e)) d;
      media = c.in_ok-media_text.ensures ∙ ap media_text media;
      content = c.in_ok-content.ensures.content d;
    }
