use Rattle.std.proofs.Common.{length, set, slice_get, true, refl, ap, ◌∙◌, sym, length-set}
use Rattle.std.proofs.lemmas.List.{with_items_is}
use Rattle.bytecode_verifier.proofs.Versions.{jump_named}
use Rattle.bytecode_verifier.proofs.Marks.{marks_stay, marks_more}
use Rattle.bytecode_verifier.proofs.targets.targets_of.Goals as goal
use Rattle.bytecode_verifier.proofs.targets.targets_of.Goals.{then-jumps, else-jumps}

pub loop-instruction-preserved : goal.loop-instruction-preserved
loop-instruction-preserved c =
    elim c.if-jumps.branch [
      | then-jumps w ↦
          let new = w.mark.ensures ∙ ap (λ marks. set marks _ true) w.deref_mut.ensures.value in
          let items = ap (λ v. v.items) w.targets-is ∙ with_items_is c.loop-instruction.targets w.mark.new.targets (rw (w.mark.ensures, length-set) w.deref_mut.ensures.len) ∙ new in
          record {
            number = rw (items, length-set) c.loop-instruction.invariant.number;
            each = λ place within. rw items
                (marks_more c.args.version c.args.instructions.now c.loop-instruction.instruction-index _ _ c.loop-instruction.targets.items place c.loop-instruction-test.true refl
                (jump_named c.args.version _ ∙ sym c.jumps.ensures ∙ w.if-jumps.true)
                (rw c.loop-instruction.invariant.number within) (c.loop-instruction.invariant.each place within));
          }
      | else-jumps w ↦
          record {
            number = ap (λ v. length v.items) w.targets-is ∙ c.loop-instruction.invariant.number;
            each = λ place within. ap (λ v. slice_get v.items place) w.targets-is
                ∙ marks_stay c.args.version c.args.instructions.now c.loop-instruction.instruction-index _ _ c.loop-instruction.targets.items place c.loop-instruction-test.true refl
                (jump_named c.args.version _ ∙ sym c.jumps.ensures ∙ w.if-jumps.false)
                (c.loop-instruction.invariant.each place within);
          }
    ]
