use Rattle.std.proofs.Common.{None, Some, ◌∙◌, sym, arith}
use Rattle.volumes_rows.proofs.Slots.{is_empty, put_at}
use Rattle.volumes_rows.proofs.open_volumes.put_into.Goals as goal

pub returns : goal.returns
returns g c = λ put.
    put_at c.args.slots.now.items c.args.place c.index.result.now None (Some c.args.it) (omega arith) (sym c.index.ensures ∙ is_empty c.index.result.now (sym c.is_some.ensures ∙ c.if-is_some.false))
