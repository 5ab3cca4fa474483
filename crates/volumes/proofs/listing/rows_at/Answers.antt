use Rattle.std.proofs.Common.{map, sym, subst}
use Rattle.std.proofs.lemmas.Result.{IfOk-at_ok}
use Rattle.part_store.specs.Standing.{listed}
use Rattle.sqlite.proofs.StateLemmas.{clean_if_open}
use Rattle.volumes.specs.Holding.{HasClosed, HasOpened}
use Rattle.volumes.proofs.Reading.{read_keeps, read_rows}
use Rattle.volumes.proofs.listing.rows_at.Goals as goal

pub returns-in-Ok-clause-rows : goal.returns-in-Ok-clause-rows
returns-in-Ok-clause-rows g c =
    let k = g.V.Volumes.holding in
    let opened = subst (HasOpened k g.S.Store c.args.place c.args.volumes.now c.open.new.self) (sym c.release-store.ensures) c.in_ok-depot.ensures.opened in
    let closed = subst (HasClosed k g.S.Store c.args.place c.open.new.self c.close.new.self) c.adopt.ensures c.close.ensures.closed in
    read_rows g.S.Store (λ h is_open. clean_if_open (g.S.Store.view h.store) (g.met.S.Store.shut_if_dirty h.store) is_open) k c.args.place c.args.volumes.now c.open.new.self c.close.new.self c.release-store.result c.entries_since-rows.new.self opened closed c.entries_since-rows.ensures.reads.unchanged c.args.user.now c.args.number (map listed c.in-Ok.rows.items)
    (λ clean before stands. IfOk-at_ok _ c.in-Ok.is (c.entries_since-rows.ensures.answer clean) before stands)

pub returns-in-Ok-clause-keeps : goal.returns-in-Ok-clause-keeps
returns-in-Ok-clause-keeps g c =
    let k = g.V.Volumes.holding in
    let opened = subst (HasOpened k g.S.Store c.args.place c.args.volumes.now c.open.new.self) (sym c.release-store.ensures) c.in_ok-depot.ensures.opened in
    let closed = subst (HasClosed k g.S.Store c.args.place c.open.new.self c.close.new.self) c.adopt.ensures c.close.ensures.closed in
    read_keeps g.S.Store (λ h is_open. clean_if_open (g.S.Store.view h.store) (g.met.S.Store.shut_if_dirty h.store) is_open) k c.args.place c.args.volumes.now c.open.new.self c.close.new.self c.release-store.result c.entries_since-rows.new.self opened closed c.entries_since-rows.ensures.reads.unchanged

pub returns-in-Err-clause-keeps : goal.returns-in-Err-clause-keeps
returns-in-Err-clause-keeps g c =
    let k = g.V.Volumes.holding in
    let opened = subst (HasOpened k g.S.Store c.args.place c.args.volumes.now c.open.new.self) (sym c.release-store.ensures) c.in_ok-depot.ensures.opened in
    let closed = subst (HasClosed k g.S.Store c.args.place c.open.new.self c.close.new.self) c.adopt.ensures c.close.ensures.closed in
    read_keeps g.S.Store (λ h is_open. clean_if_open (g.S.Store.view h.store) (g.met.S.Store.shut_if_dirty h.store) is_open) k c.args.place c.args.volumes.now c.open.new.self c.close.new.self c.release-store.result c.entries_since-rows.new.self opened closed c.entries_since-rows.ensures.reads.unchanged
