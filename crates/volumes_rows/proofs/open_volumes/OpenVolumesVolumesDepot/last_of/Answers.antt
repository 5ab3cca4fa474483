use Rattle.std.proofs.Common.{sym, subst}
use Rattle.std.proofs.lemmas.Result.{IfOk-at_ok}
use Rattle.sqlite.proofs.StateLemmas.{clean_if_open}
use Rattle.volumes.specs.Holding.{HasClosed, HasOpened}
use Rattle.volumes.proofs.Reading.{read_keeps, read_last}
use Rattle.volumes_rows.specs.Depots.{holding_of}
use Rattle.volumes_rows.proofs.open_volumes.OpenVolumesVolumesDepot.last_of.Goals as goal

pub returns-in-Ok-clause-last : goal.returns-in-Ok-clause-last
returns-in-Ok-clause-last g c =
    let opened = subst (HasOpened (holding_of g.S.Store) g.S.Store c.args.place c.args.self.now c.lend.new.self) (sym c.release-store.ensures) c.in-Some.ensures.lent in
    let closed = subst (HasClosed (holding_of g.S.Store) g.S.Store c.args.place c.lend.new.self c.take_back.new.self) c.adopt.ensures c.take_back.ensures.closed in
    read_last g.S.Store (λ h is_open. clean_if_open (g.S.Store.view h.store) (g.met.S.Store.shut_if_dirty h.store) is_open) (holding_of g.S.Store) c.args.place c.args.self.now c.lend.new.self c.take_back.new.self c.release-store.result c.last_of-last.new.self opened closed c.last_of-last.ensures.reads.unchanged c.args.user.now c.in-Ok.last
    (λ clean before stands. IfOk-at_ok _ c.in-Ok.is (c.last_of-last.ensures.answer clean) before stands)

pub returns-in-Ok-clause-keeps : goal.returns-in-Ok-clause-keeps
returns-in-Ok-clause-keeps g c =
    let opened = subst (HasOpened (holding_of g.S.Store) g.S.Store c.args.place c.args.self.now c.lend.new.self) (sym c.release-store.ensures) c.in-Some.ensures.lent in
    let closed = subst (HasClosed (holding_of g.S.Store) g.S.Store c.args.place c.lend.new.self c.take_back.new.self) c.adopt.ensures c.take_back.ensures.closed in
    read_keeps g.S.Store (λ h is_open. clean_if_open (g.S.Store.view h.store) (g.met.S.Store.shut_if_dirty h.store) is_open) (holding_of g.S.Store) c.args.place c.args.self.now c.lend.new.self c.take_back.new.self c.release-store.result c.last_of-last.new.self opened closed c.last_of-last.ensures.reads.unchanged

pub returns-in-Err-clause-keeps : goal.returns-in-Err-clause-keeps
returns-in-Err-clause-keeps g c =
    let opened = subst (HasOpened (holding_of g.S.Store) g.S.Store c.args.place c.args.self.now c.lend.new.self) (sym c.release-store.ensures) c.in-Some.ensures.lent in
    let closed = subst (HasClosed (holding_of g.S.Store) g.S.Store c.args.place c.lend.new.self c.take_back.new.self) c.adopt.ensures c.take_back.ensures.closed in
    read_keeps g.S.Store (λ h is_open. clean_if_open (g.S.Store.view h.store) (g.met.S.Store.shut_if_dirty h.store) is_open) (holding_of g.S.Store) c.args.place c.args.self.now c.lend.new.self c.take_back.new.self c.release-store.result c.last_of-last.new.self opened closed c.last_of-last.ensures.reads.unchanged
