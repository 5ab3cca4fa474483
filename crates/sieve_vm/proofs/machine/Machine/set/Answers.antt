use Rattle.std.proofs.Common.{◌≡◌, Some, slice_set, take, sym, subst, ◌∙◌}
use Rattle.std.proofs.lemmas.Result.{IfOk-weaker}
use Rattle.bytecode_format.specs.Modifiers.{modified}
use Rattle.bytecode_format.specs.declared.modifiers.Modifiers.{Modifiers}
use Rattle.sieve_vm.specs.Standing.{Held, held_of}
use Rattle.sieve_vm.proofs.Tests.{stack_is, holds_now}
use Rattle.sieve_vm.proofs.machine.Machine.set.Goals as goal

pub returns-clause-done : goal.returns-clause-done
returns-clause-done c =
    IfOk-weaker c.set.result _ _
    (λ octets told mail s t rest modifiers stands top known.
    let m = c.args.self.now in
    let set = told t rest (stack_is mail s m stands ∙ top) in
    let some : Some c.unwrap-modifiers.result ≡ Some modifiers = sym c.unwrap-modifiers.ensures ∙ c.of.ensures ∙ known in
    let same : c.unwrap-modifiers.result ≡ modifiers = cc in
    let change = λ (k : Modifiers) (h : Held). (let now : Held = record h { stack = rest; variables = slice_set h.variables c.args.instruction.now.c (take 4096 (modified k t)) } in now) in
    let done : held_of c.set.new.self ≡ change modifiers (held_of m.work) = subst (λ k. held_of c.set.new.self ≡ change k (held_of m.work)) same set.1 in
    (set.0, holds_now mail s m stands c.set.new.self (change modifiers) done))
    c.set.ensures
