use Rattle.std.proofs.Common.{slice_set, take, map, ap, ◌∙◌, length}
use Rattle.bytecode_format.specs.Modifiers.{modified}
use Rattle.sieve_vm.specs.SharedTexts.{items_of}
use Rattle.sieve_vm.specs.Standing.{Held}
use Rattle.sieve_vm.proofs.Holding.{same_parts}
use Rattle.sieve_vm.proofs.workspace.Workspace.set.Goals as goal

pub returns : goal.returns
returns c = λ t rest top.
    let work = c.args.self.now in
    let popped = c.pop_text-entry.ensures t rest top in
    let value = c.in_ok-value.ensures ∙ ap (λ octets. take 4096 (modified c.args.modifiers octets)) popped.0 in (
      ap length (c.octets_of-len.ensures ∙ popped.0),
      c.assign.ensures ∙ same_parts _ rest _ _ (ap (λ (h : Held). h.stack) popped.1) (ap (λ (h : Held). slice_set h.variables c.args.variable (items_of c.in_ok-value.value)) popped.1 ∙ ap (slice_set (map items_of work.variables.items) c.args.variable) value) (ap (λ (h : Held). h.captures) popped.1),
    )
