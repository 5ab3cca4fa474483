use Rattle.std.proofs.Common.{IsTrue, ap, refl, rules, subst}
use Rattle.depot_actions.specs.Applying.{Applies}
use Rattle.depot_actions.specs.Deliveries.{reply_of}
use Rattle.depot_actions.specs.DepotState.{ListSince, Listed}
use Rattle.depot_actions.specs.Users.{is_user_name}
use Rattle.depot_actions.proofs.Applying.{looked, unnamed}
use Rattle.depot_actions.proofs.depot.Depot.list_since.Goals as goal

pub returns-then-not-is_user_name : goal.returns-then-not-is_user_name
returns-then-not-is_user_name g c = unnamed g.S.Store c.args.self.now (ListSince c.args.user.now c.args.number) reply_of (search rules)

pub returns : goal.returns
returns g c =
    let old = c.self.inside.store in
    let new = c.entries_since.new.self in
    let command = ListSince c.args.user.now c.args.number in
    let named : IsTrue (is_user_name c.args.user.now) = search rules in
    subst (λ h. Applies g.S.Store h new c.map_err.result command reply_of) c.self.view_is
    (looked g.S.Store old new c.entries_since.result c.map_err.result c.map_err.ensures.cases command named tt reply_of _
    (λ before rows is. record { named = named; step = (ap Listed is, refl) })
    (λ h. h) (λ e h. h) (λ h. h) c.entries_since.ensures.answer c.entries_since.ensures.reads c.entries_since.ensures.refused)
