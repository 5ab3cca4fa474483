use Rattle.std.proofs.Common.{ap, subst, sym, ◌∙◌}
use Rattle.std.proofs.Common.{Vec, Global}
use Rattle.mime_tree.specs.TypeTexts.{AreTypeTexts}
use Rattle.mime_tree.specs.declared.type_texts.TypeText.{TypeText}
use Rattle.mime_tree.proofs.Typing.{kept_more}
use Rattle.mime_tree.proofs.type_texts.TypeTexts.read.Goals.{in-Some+in_ok-push, in_default}
use Rattle.mime_tree.proofs.type_texts.TypeTexts.read.Goals as goal

pub loop-place-preserved : goal.loop-place-preserved
loop-place-preserved c = elim c.match-branch-2.branch [
  | in-Some+in_ok-push w ↦
      kept_more c.args.fields.now c.loop-place.texts.items c.match-branch-2.texts.items (record { place = c.loop-place.place; text = w.in-Some.text }) c.index-fields-place.result c.in_ok-text.field-0
      c.loop-place.invariant (ap (λ (t : Vec TypeText Global). t.items) w.texts-is ∙ w.in_ok-push.ensures.items) c.index-fields-place.is w.in-Some.is c.in_ok-text.ensures
  | in_default w ↦ subst (λ (t : Vec TypeText Global). AreTypeTexts c.args.fields.now t.items) (sym w.texts-is) c.loop-place.invariant
]
