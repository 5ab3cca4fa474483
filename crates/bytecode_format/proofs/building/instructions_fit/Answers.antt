use Rattle.std.proofs.Common.{get_or}
use Rattle.std.proofs.lemmas.List.{get_or_default}
use Rattle.bytecode_format.specs.Spelling.{Fits}
use Rattle.bytecode_format.proofs.building.instructions_fit.Goals as goal
use borrow.Author.Count.{below_more}

pub table-preserved : goal.table-preserved
table-preserved c = λ k d lt.
    below_more (λ n. Fits (get_or c.args.instructions.now n d)) c.table.i-index (λ n h. c.table.invariant n d h)
    (rw (get_or_default c.args.instructions.now c.table.i-index d (record { op = 0; a = 0; b = 0; c = 0 }) c.table-test.true) c.instruction_fits.ensures) k lt
