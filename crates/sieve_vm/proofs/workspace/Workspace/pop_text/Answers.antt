use Rattle.std.proofs.Common.{map, reverse, refl, ap, ◌∙◌}
use Rattle.sieve_vm.specs.Standing.{value_of, with_top}
use Rattle.sieve_vm.proofs.Holding.{same_parts, last_text, text_below}
use Rattle.sieve_vm.proofs.workspace.Workspace.pop_text.Goals as goal

pub returns : goal.returns
returns c = λ t rest top.
    let work = c.args.self.now in
    let left = c.pop.new.self.items in
    let below = text_below work.top (map value_of (reverse work.entries.items)) t rest top in
    let last = last_text work.entries.items left c.in-Some.entry t rest c.in-Some.ensures.items below.1 in (
      last.text_is,
      same_parts _ rest _ _ (ap (λ o. with_top o (map value_of (reverse left))) below.0 ∙ last.rest_is) refl refl,
    )
