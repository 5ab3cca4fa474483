use Rattle.std.proofs.Common.{map, sym, subst}
use Rattle.std.proofs.lemmas.Result.{IfOk-at_ok}
use Rattle.part_store.specs.UserLines.{line_of}
use Rattle.sqlite.proofs.StateLemmas.{clean_if_open}
use Rattle.volumes.specs.Holding.{HasClosed, HasOpened}
use Rattle.volumes.proofs.Reading.{read_keeps, read_users}
use Rattle.volumes.proofs.beginning.newest_users.Goals as goal

pub returns-in-Ok-clause-users : goal.returns-in-Ok-clause-users
returns-in-Ok-clause-users g c =
    let k = g.V.Volumes.holding in
    let place = c.in_ok-place.place in
    let opened = subst (HasOpened k g.S.Store place c.args.volumes.now c.open_newest.new.volumes) (sym c.release-store.ensures) c.in_ok-place.ensures.opened.opened in
    let closed = subst (HasClosed k g.S.Store place c.open_newest.new.volumes c.close.new.self) c.adopt.ensures c.close.ensures.closed in
    read_users g.S.Store (λ h is_open. clean_if_open (g.S.Store.view h.store) (g.met.S.Store.shut_if_dirty h.store) is_open) k place c.args.volumes.now c.open_newest.new.volumes c.close.new.self c.release-store.result c.users-users.new.self opened closed c.users-users.ensures.reads.unchanged
    c.in_ok-place.ensures.opened.newest (map line_of c.in-Ok.users.items) (λ clean before stands. IfOk-at_ok _ c.in-Ok.is (c.users-users.ensures.answer clean) before stands)

pub returns-in-Ok-clause-keeps : goal.returns-in-Ok-clause-keeps
returns-in-Ok-clause-keeps g c =
    let k = g.V.Volumes.holding in
    let place = c.in_ok-place.place in
    let opened = subst (HasOpened k g.S.Store place c.args.volumes.now c.open_newest.new.volumes) (sym c.release-store.ensures) c.in_ok-place.ensures.opened.opened in
    let closed = subst (HasClosed k g.S.Store place c.open_newest.new.volumes c.close.new.self) c.adopt.ensures c.close.ensures.closed in
    read_keeps g.S.Store (λ h is_open. clean_if_open (g.S.Store.view h.store) (g.met.S.Store.shut_if_dirty h.store) is_open) k place c.args.volumes.now c.open_newest.new.volumes c.close.new.self c.release-store.result c.users-users.new.self opened closed c.users-users.ensures.reads.unchanged

pub returns-in-Err-clause-keeps : goal.returns-in-Err-clause-keeps
returns-in-Err-clause-keeps g c =
    let k = g.V.Volumes.holding in
    let place = c.in_ok-place.place in
    let opened = subst (HasOpened k g.S.Store place c.args.volumes.now c.open_newest.new.volumes) (sym c.release-store.ensures) c.in_ok-place.ensures.opened.opened in
    let closed = subst (HasClosed k g.S.Store place c.open_newest.new.volumes c.close.new.self) c.adopt.ensures c.close.ensures.closed in
    read_keeps g.S.Store (λ h is_open. clean_if_open (g.S.Store.view h.store) (g.met.S.Store.shut_if_dirty h.store) is_open) k place c.args.volumes.now c.open_newest.new.volumes c.close.new.self c.release-store.result c.users-users.new.self opened closed c.users-users.ensures.reads.unchanged
