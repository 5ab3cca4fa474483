use Rattle.std.proofs.Common.{◌-◌, ◌∙◌, ℕ, List, [], sym, ap, subst, arith, vec_len}
use Rattle.octets.specs.Limits.{max_depth}
use Rattle.mime_tree.specs.PartTree.{parts_of, text_plain}
use Rattle.mime_tree.specs.Reading.{AreAmong, wanted_from}
use Rattle.mime_tree.specs.declared.media.DefaultType.TheVariants.{Text}
use Rattle.mime_tree.specs.declared.reader.Beginning.{Beginning}
use Rattle.mime_tree.proofs.Enclosing.{whole_text}
use Rattle.mime_tree.proofs.reader.message_parts.Goals as goal

pub parts-init : goal.parts-init
parts-init c =
    let text = c.args.text.now in
    let beginning : Beginning = record { place = 0; end = 0; levels = 31; default = Text } in record {
      next = record { within = omega arith; before = omega arith; levels = omega arith };
      among = subst (AreAmong (vec_len c.new-parts.result)) (sym c.new-opened.ensures.items) tt;
      few = omega (arith, c.new-parts.ensures.len);
      so_far = ap (λ os. wanted_from text beginning os c.new-parts.result.items) c.new-opened.ensures.items
          ∙ ap (wanted_from text beginning []) c.new-parts.ensures.items
          ∙ ap (λ (octets : List ℕ). parts_of (max_depth - 1) text_plain (record { place = 0; octets = octets })) (sym (whole_text text));
    }
