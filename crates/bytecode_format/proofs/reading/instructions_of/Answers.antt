use Rattle.std.proofs.lemmas.Result.{err_from_is_err_and}
use Rattle.bytecode_format.specs.Readers.{instruction_at}
use Rattle.bytecode_format.proofs.Loop.{goes_on, ends, is_done}
use Rattle.bytecode_format.proofs.reading.instructions_of.Goals as goal

pub returns-in_err-instruction : goal.returns-in_err-instruction
returns-in_err-instruction c =
    let p = err_from_is_err_and c.from_residual.result c.from_residual.ensures.1 in
    rw (p.1, p.2) (ends instruction_at c.in_err-instruction.field-0.0 c.table.instructions.items c.args.count c.table.counter c.table.rest.now _ c.table-test.true c.in_err-instruction.ensures c.table.invariant)

pub table-preserved : goal.table-preserved
table-preserved c =
    rw c.in_ok-push.ensures.items (goes_on instruction_at c.table.instructions.items c.args.count c.table.counter c.table.rest.now c.in_ok-instruction.instruction c.in_ok-instruction.after.now _ c.table-test.true c.in_ok-instruction.ensures c.table.invariant)

pub returns : goal.returns
returns c = is_done instruction_at c.table.instructions.items c.args.count c.table.counter c.table.rest.now _ c.table-test.false c.table.invariant
