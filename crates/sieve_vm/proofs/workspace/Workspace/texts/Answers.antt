use Rattle.std.proofs.Common.{length, refl, sym, ap, ◌∙◌, arith}
use Rattle.sieve_vm.specs.Standing.{held_of}
use Rattle.sieve_vm.proofs.Pushed.{lent, last_texts}
use Rattle.sieve_vm.proofs.workspace.Workspace.texts.Goals as goal

pub overflow_sub-below : goal.overflow_sub-below
overflow_sub-below c =
    let work = c.args.self.now in
    let is = lent c.args.number work.top work.entries.items (held_of work).stack c.requires.0 refl c.requires.1 in
    omega (arith, is.within)

pub returns : goal.returns
returns c = λ top e.
    let work = c.args.self.now in
    let is = lent c.args.number work.top work.entries.items (held_of work).stack top refl e in
    let counted = c.len.ensures ∙ sym c.deref.ensures.len ∙ ap length c.deref.ensures.value in
    last_texts c.args.number c.len.result work.entries.items c.deref.result.now top.texts c.deref.ensures.value counted is.texts
