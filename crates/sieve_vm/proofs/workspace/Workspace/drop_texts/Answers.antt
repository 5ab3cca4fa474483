use Rattle.std.proofs.Common.{take, map, reverse, refl, sym, ap, ◌∙◌, ◌-◌, arith}
use Rattle.sieve_vm.specs.Standing.{value_of, held_of, with_top}
use Rattle.sieve_vm.proofs.Pushed.{lent}
use Rattle.sieve_vm.proofs.Holding.{same_parts}
use Rattle.sieve_vm.proofs.workspace.Workspace.drop_texts.Goals as goal

pub overflow_sub-below : goal.overflow_sub-below
overflow_sub-below c =
    let work = c.args.self.now in
    let is = lent c.args.number work.top work.entries.items (held_of work).stack c.requires.0 refl c.requires.1 in
    omega (arith, is.within)

pub returns : goal.returns
returns c = λ top e.
    let work = c.args.self.now in
    let is = lent c.args.number work.top work.entries.items (held_of work).stack top refl e in
    let left = ap (λ es. with_top work.top (map value_of (reverse es))) (c.truncate.ensures.items ∙ ap (λ l. take (l - c.args.number) work.entries.items) (c.len.ensures ∙ work.entries.ok.0)) ∙ sym is.below in
    same_parts _ top.below _ _ left refl refl
