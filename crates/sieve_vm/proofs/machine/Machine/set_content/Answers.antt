use Rattle.std.proofs.Common.{take, slice_set, length, ap, ◌∙◌}
use Rattle.std.proofs.lemmas.List.{length-take}
use Rattle.sieve_vm.specs.Standing.{Held, held_of}
use Rattle.sieve_vm.proofs.Looking.{looked_for_beginning}
use Rattle.sieve_vm.proofs.Tests.{holds_now, same_loops}
use Rattle.sieve_vm.proofs.machine.Machine.set_content.Goals as goal

pub returns-clause-done : goal.returns-clause-done
returns-clause-done c = λ mail s part stands at.
    let m = c.args.self.now in
    let i = c.args.instruction.now in
    let octets = c.in_ok-octets.ensures.octets part at in
    let loops = same_loops mail s m stands c.beginning.new.self c.in_ok-octets.ensures.same in
    let items = c.in_ok-value.ensures ∙ octets in
    let now = c.assign.ensures ∙ ap (λ v. let h : Held = record (held_of m.work) { variables = slice_set (held_of m.work).variables i.c v } in h) items in (
      c.len-number.ensures ∙ c.in_ok-octets.octets.ok.0 ∙ ap length octets ∙ length-take i.b part.content,
      holds_now mail s (record m { loops = c.beginning.new.self }) loops c.assign.new.self (λ (h : Held). record h { variables = slice_set h.variables i.c (take i.b part.content) }) now,
    )

pub returns-clause-looked : goal.returns-clause-looked
returns-clause-looked c =
    looked_for_beginning c.args.self.now.loops c.beginning.new.self c.in_ok-octets.ensures.same c.in_ok-octets.ensures.known c.in_ok-octets.ensures.kept
