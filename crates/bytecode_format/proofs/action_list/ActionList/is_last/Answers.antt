use Rattle.std.proofs.Common.{◌-◌, length, sym}
use Rattle.bytecode_format.proofs.ActionLemmas.{listed_at}
use Rattle.bytecode_format.proofs.action_list.ActionList.is_last.Goals as goal

pub returns-in-Some : goal.returns-in-Some
returns-in-Some c = λ same.
    let at = rw c.in-Some.is at c.last.ensures.value in
    let is = rw c.eq.ensures at same in
    rw (c.deref.ensures.value, c.self.view_is) at (listed_at c.args.action.now c.in-Some.last.now c.deref.result.now (length c.deref.result.now - 1) (sym at) is)
