use Rattle.std.proofs.Common.{◌<◌, get_or, length, slice_index, ap, subst, sym, ◌∙◌, arith}
use Rattle.bytecode_cost.specs.Sums.{Sums}
use Rattle.bytecode_format.specs.declared.instruction.Instruction.{Instruction}
use Rattle.bytecode_format.specs.Operations.{operation_of}
use Rattle.bytecode_verifier.specs.Counting.{counts}
use Rattle.bytecode_verifier.specs.Nests.{AreNests}
use Rattle.bytecode_verifier.proofs.Numbers.{number_here, numbers_more, numbers_small, one_at_most}
use Rattle.bytecode_verifier.proofs.counting.numbers_of.Goals as goal

pub charge-requires-clause-fixed : goal.charge-requires-clause-fixed
charge-requires-clause-fixed c = λ few.
    let depth = c.depth_at.result in
    omega (
      arith,
      numbers_small c.args.counted c.args.program.now c.loop-place.place depth,
      ap (λ (sums : Sums). slice_index sums.fixed depth) c.loop-place.invariant,
      one_at_most (counts c.args.counted c.of.result),
      c.number_for-fixed.ensures,
      c.loop-place-test.true,
      ap length c.instructions-instructions.ensures.value,
      c.instructions-instructions.ensures.program.instructions,
    )

pub loop-place-preserved : goal.loop-place-preserved
loop-place-preserved c =
    let none : Instruction = record { op = 0; a = 0; b = 0; c = 0 } in
    let same = c.instructions-instructions.ensures.value in
    let within : c.loop-place.place < length c.args.program.now.instructions = omega (arith, c.loop-place-test.true, ap length same) in
    let op = c.of.ensures ∙ ap (λ xs. operation_of (get_or xs c.loop-place.place none).op) same in
    let one = number_here c.args.counted c.args.program.now c.loop-place.place none c.of.result c.number_for-fixed.result within op c.number_for-fixed.ensures in
    let nests = subst (AreNests c.args.program.now.instructions) (sym c.deref.ensures.value) (subst (λ xs. AreNests xs c.in_ok-nests.nests.items) same c.in_ok-nests.ensures) in
    c.charge.ensures ∙ numbers_more c.args.counted c.args.program.now c.loop-place.place c.depth_at.result c.number_for-fixed.result c.loop-place.numbers (c.depth_at.ensures c.args.program.now nests) one c.loop-place.invariant
