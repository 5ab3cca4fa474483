use Rattle.std.proofs.Common.{slice_index, ap, ◌∙◌, arith}
use Rattle.std.specs.Bool.{then_some}
use Rattle.std.specs.Option.{option_and_then, option_or}
use Rattle.bytecode_cost.specs.Sums.{Sums}
use Rattle.bytecode_verifier.specs.Pass.{with_charge}
use Rattle.bytecode_verifier.specs.Rows.{row_in_version}
use Rattle.bytecode_verifier.proofs.Steps.{none_from, small_here, cap_fits_here, passed_more}
use Rattle.bytecode_verifier.proofs.pass.Pass.take_as.Goals as goal

pub advance-requires : goal.advance-requires
advance-requires c = small_here c.args.here.now.program.now c.args.here.now.place c.args.here.now.instruction.now c.args.self.now c.version.ensures.program c.requires.here c.requires.before

pub charge-requires-clause-fixed : goal.charge-requires-clause-fixed
charge-requires-clause-fixed c = λ few.
    let fits = cap_fits_here c.args.here.now.program.now c.args.here.now.place c.args.here.now.instruction.now c.args.self.now c.version.ensures.program c.requires.here c.requires.before c.args.here.now.targeted c.args.operation c.in_ok-passed.passed
    c.unwrap_or-cap.result c.advance.new.shape c.requires.named c.in_ok-passed.ensures c.unwrap_or-cap.ensures in
    omega (arith, fits.0, c.requires.before.fixed c.depth_at.result, c.requires.small, ap (λ (sums : Sums). slice_index sums.fixed c.depth_at.result) c.note.ensures.budget)

pub charge-requires-clause-scaled : goal.charge-requires-clause-scaled
charge-requires-clause-scaled c = λ few.
    let fits = cap_fits_here c.args.here.now.program.now c.args.here.now.place c.args.here.now.instruction.now c.args.self.now c.version.ensures.program c.requires.here c.requires.before c.args.here.now.targeted c.args.operation c.in_ok-passed.passed
    c.unwrap_or-cap.result c.advance.new.shape c.requires.named c.in_ok-passed.ensures c.unwrap_or-cap.ensures in
    omega (arith, fits.1, c.requires.before.scaled c.depth_at.result, c.requires.small, ap (λ (sums : Sums). slice_index sums.scaled c.depth_at.result) c.note.ensures.budget)

pub returns : goal.returns
returns c =
    passed_more c.args.here.now.program.now c.args.here.now.place c.args.here.now.instruction.now c.args.operation c.row_named-row.result c.args.self.now _ c.in_ok-passed.passed c.unwrap_or-cap.result c.args.here.now.targeted
    c.misses_index.result c.is_well_formed.result c.misses_loop.result c.misses_target.result c.misses_part.result c.depth_at.result
    c.requires.here c.requires.before c.requires.target c.requires.named (c.row_named-row.ensures ∙ ap (λ v. option_and_then (row_in_version v) c.args.operation) c.version.ensures.value ∙ ap (option_and_then (row_in_version c.args.here.now.program.now.version)) c.requires.named)
    c.misses_index.ensures c.note.ensures.index c.is_well_formed.ensures c.note.ensures.form
    (c.misses_loop.ensures c.args.here.now.program.now c.requires.nests) c.note.ensures.brackets
    (c.misses_target.ensures c.args.here.now.program.now c.requires.nests) c.note.ensures.jump
    (c.misses_part.ensures c.args.here.now.program.now c.requires.nests) c.note.ensures.part
    (c.note.ensures.stack ∙ ap (λ fails. option_or c.args.self.now.stack (then_some fails c.args.here.now.place)) (none_from c.in_ok-passed.passed c.is_none.result c.is_none.ensures)) (rw c.note.ensures.shape c.in_ok-passed.ensures) c.unwrap_or-cap.ensures
    (cap_fits_here c.args.here.now.program.now c.args.here.now.place c.args.here.now.instruction.now c.args.self.now c.version.ensures.program c.requires.here c.requires.before c.args.here.now.targeted c.args.operation c.in_ok-passed.passed
    c.unwrap_or-cap.result c.advance.new.shape c.requires.named c.in_ok-passed.ensures c.unwrap_or-cap.ensures)
    (c.depth_at.ensures c.args.here.now.program.now c.requires.nests) (c.charge.ensures ∙ ap (with_charge c.depth_at.result c.unwrap_or-cap.result) c.note.ensures.budget)
