use Rattle.std.specs.Int.{w64}
use Rattle.std.proofs.lemmas.Result.{err_from_is_err_and}
use Rattle.bytecode_format.specs.Readers.{number_at}
use Rattle.bytecode_format.proofs.Loop.{goes_on, ends, is_done}
use Rattle.bytecode_format.proofs.reading.numbers_of.Goals as goal

pub returns-in_err-number : goal.returns-in_err-number
returns-in_err-number c =
    let p = err_from_is_err_and c.from_residual.result c.from_residual.ensures.1 in
    rw (p.1, p.2) (ends (number_at w64) c.in_err-number.field-0.0 c.table.numbers.items c.args.count c.table.counter c.table.rest.now _ c.table-test.true c.in_err-number.ensures c.table.invariant)

pub table-preserved : goal.table-preserved
table-preserved c =
    rw c.in_ok-push.ensures.items (goes_on (number_at w64) c.table.numbers.items c.args.count c.table.counter c.table.rest.now c.in_ok-number.number c.in_ok-number.after.now _ c.table-test.true c.in_ok-number.ensures c.table.invariant)

pub returns : goal.returns
returns c = is_done (number_at w64) c.table.numbers.items c.args.count c.table.counter c.table.rest.now _ c.table-test.false c.table.invariant
