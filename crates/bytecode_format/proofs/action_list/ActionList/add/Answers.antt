use Rattle.std.proofs.Common.{◌≡◌, [], ◌∷◌, ◌++◌, ◌∙◌, ap, refl}
use Rattle.std.specs.BTreeSet.{contains}
use Rattle.bytecode_format.specs.Action.{action_cmp}
use Rattle.bytecode_format.proofs.ActionLemmas.{is_listed-push, keeps-push}
use Rattle.bytecode_format.specs.Actions.{is_listed}
use Rattle.bytecode_format.specs.declared.action.Action.TheVariants.{Keep}
use Rattle.bytecode_format.proofs.action_list.ActionList.add.Goals as goal

pub invariant_of-self-2 : goal.invariant_of-self-2
invariant_of-self-2 c =
    let listed : c.push.new.self.items ≡ c.self.inside.listed.items ++ c.args.action ∷ [] =
    rw c.unwrap.ensures at c.push.ensures.items ∙ ap (λ l. l ++ c.args.action ∷ []) c.in_ok-reserve.ensures.items in
    let same = c.in_ok-clone.ensures.cases in (
      λ asked. rw (c.in_ok-insert.ensures.updates.0 asked, same, listed) (is_listed-push c.args.action asked c.self.inside.listed.items (contains action_cmp c.self.inside.seen asked) (c.self.invariant.0 asked)),
      rw (c.will_keep-keeps.ensures, ← c.self.view_is, listed) (keeps-push c.args.action c.self.inside.listed.items (is_listed Keep c.self.inside.listed.items) refl),
    )
