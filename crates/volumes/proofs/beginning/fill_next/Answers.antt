use Rattle.std.proofs.Common.{map, sym, subst}
use Rattle.std.proofs.lemmas.Result.{IfOk-at_ok}
use Rattle.part_store.specs.UserLines.{line_of}
use Rattle.sqlite.proofs.StateLemmas.{clean_if_open}
use Rattle.volumes.specs.Holding.{HasAdded, HasMade}
use Rattle.volumes.proofs.Applied.{keeps_then}
use Rattle.volumes.proofs.Begun.{filled, unfilled}
use Rattle.volumes.proofs.beginning.fill_next.Goals as goal

pub returns-in_err-depot-clause-keeps : goal.returns-in_err-depot-clause-keeps
returns-in_err-depot-clause-keeps g c = unfilled g.V.Volumes.holding (map line_of c.args.users.now) c.args.volumes.now c.begin.new.self c.in_err-depot.ensures.keeps

pub returns-in-Ok-clause-keeps : goal.returns-in-Ok-clause-keeps
returns-in-Ok-clause-keeps g c =
    let k = g.V.Volumes.holding in
    let made = subst (HasMade k g.S.Store c.args.volumes.now c.begin.new.self) (sym c.release-store.ensures) c.in_ok-depot.ensures.made in
    let added = subst (HasAdded k g.S.Store c.begin.new.self c.append.new.self) c.adopt.ensures c.append.ensures in
    filled g.S.Store (λ h is_open. clean_if_open (g.S.Store.view h.store) (g.met.S.Store.shut_if_dirty h.store) is_open) k (map line_of c.args.users.now) c.args.volumes.now c.begin.new.self c.append.new.self c.release-store.result c.put_users.new.self made
    (λ clean. IfOk-at_ok _ c.in-Ok.is (c.put_users.ensures.writes.made clean)) added c.users_carry_over.ensures

pub returns-in-Err-clause-keeps : goal.returns-in-Err-clause-keeps
returns-in-Err-clause-keeps g c =
    let k = g.V.Volumes.holding in
    unfilled k (map line_of c.args.users.now) c.args.volumes.now c.abandon.new.self (keeps_then k c.args.volumes.now c.begin.new.self c.abandon.new.self c.in_ok-depot.ensures.made.keeps c.abandon.ensures)
