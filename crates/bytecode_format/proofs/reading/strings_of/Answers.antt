use Rattle.std.proofs.lemmas.Result.{err_from_is_err_and}
use Rattle.bytecode_format.specs.Readers.{string_at}
use Rattle.bytecode_format.proofs.Loop.{goes_on, ends, is_done}
use Rattle.bytecode_format.proofs.reading.strings_of.Goals as goal

pub returns-in_err-string : goal.returns-in_err-string
returns-in_err-string c =
    let p = err_from_is_err_and c.from_residual.result c.from_residual.ensures.1 in
    rw (p.1, p.2) (ends string_at c.in_err-string.field-0.0 c.table.strings.items c.args.count c.table.counter c.table.rest.now _ c.table-test.true c.in_err-string.ensures c.table.invariant)

pub table-preserved : goal.table-preserved
table-preserved c =
    rw c.in_ok-push.ensures.items (goes_on string_at c.table.strings.items c.args.count c.table.counter c.table.rest.now c.in_ok-string.string c.in_ok-string.after.now _ c.table-test.true c.in_ok-string.ensures c.table.invariant)

pub returns : goal.returns
returns c = is_done string_at c.table.strings.items c.args.count c.table.counter c.table.rest.now _ c.table-test.false c.table.invariant
