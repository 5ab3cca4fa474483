use Rattle.std.proofs.Common.{◌≡◌, [], ◌∷◌, ◌++◌, Some, length, sym, ap, subst, ◌∙◌}
use Rattle.bytecode_format.specs.declared.action.Action.TheVariants as action
use Rattle.sieve_vm.specs.State.{current_part}
use Rattle.sieve_vm.specs.Standing.{Held, Represents}
use Rattle.sieve_vm.proofs.Tests.{stack_is, holds_now}
use Rattle.sieve_vm.proofs.machine.Machine.store.Goals as goal

pub returns-clause-done : goal.returns-clause-done
returns-clause-done c = λ mail s t rest part stands top at.
    let m = c.args.self.now in
    let took = c.in_ok-folder.ensures t rest (stack_is mail s m stands ∙ top) in
    let left = holds_now mail s m stands c.take_text.new.self (λ (h : Held). record h { stack = rest }) took.1 in
    let is : Some c.unwrap-part.result ≡ Some part = sym c.unwrap-part.ensures ∙ c.current.ensures ∙ ap current_part stands.frames ∙ at in
    let same : c.unwrap-part.result ≡ part = cc in (
      c.len-octets.ensures ∙ ap length took.0,
      subst (λ folder. Represents mail (record s { stack = rest; actions = s.actions ++ action.Store folder part ∷ [] }) c.list.new.self) took.0
          (subst (λ number. Represents mail (record s { stack = rest; actions = s.actions ++ action.Store c.in_ok-folder.folder number ∷ [] }) c.list.new.self) same (c.in_ok-list.ensures.done mail (record s { stack = rest }) left)),
    )
