use Rattle.std.proofs.Common.{[], ◌∷◌, ◌++◌, length, ap, subst, ◌∙◌}
use Rattle.bytecode_format.specs.declared.action.Action.TheVariants as action
use Rattle.sieve_vm.specs.Standing.{Held, Represents}
use Rattle.sieve_vm.proofs.Tests.{stack_is, holds_now}
use Rattle.sieve_vm.proofs.machine.Machine.file.Goals as goal

pub returns-clause-done : goal.returns-clause-done
returns-clause-done c = λ mail s t rest stands top.
    let m = c.args.self.now in
    let took = c.in_ok-folder.ensures t rest (stack_is mail s m stands ∙ top) in
    let left = holds_now mail s m stands c.take_text.new.self (λ (h : Held). record h { stack = rest }) took.1 in (
      c.len-octets.ensures ∙ ap length took.0,
      c.discard.ensures.stands mail (record s { stack = rest; actions = s.actions ++ action.File t ∷ [] })
          (subst (λ folder. Represents mail (record s { stack = rest; actions = s.actions ++ action.File folder ∷ [] }) c.list.new.self) took.0 (c.in_ok-list.ensures.done mail (record s { stack = rest }) left)),
    )
