use Rattle.std.proofs.Common.{[]}
use Rattle.sqlite.specs.Held.{state}
use Rattle.part_store.specs.Statements.{list_contents_text}
use Rattle.part_store.proofs.Asked.{list_contents_faults}
use Rattle.part_store.proofs.ContentRows.{contents_listed}
use Rattle.part_store.proofs.Queries.{asks}
use Rattle.part_store.proofs.contents.list.Goals as goal

pub returns : goal.returns
returns g c =
    let old = c.args.tx.now.conn in
    let new = c.query_all.new.self.conn in
    asks g.S.Store old new list_contents_text [] c.query_all.ensures.same_reference c.query_all.ensures.survives _ (λ rows. contents_listed (state g.S.Store old.now) (state g.S.Store new.now) rows.items)
    (list_contents_faults (state g.S.Store old.now) (state g.S.Store new.now)) c.query_all.result c.query_all.ensures.ok c.query_all.ensures.err
