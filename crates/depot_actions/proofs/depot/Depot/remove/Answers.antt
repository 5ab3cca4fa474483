use Rattle.std.proofs.Common.{IsTrue, rules, subst}
use Rattle.depot_actions.specs.Applying.{Applies}
use Rattle.depot_actions.specs.DepotState.{Done, Remove}
use Rattle.depot_actions.specs.Users.{is_user_name}
use Rattle.depot_actions.proofs.Applying.{entry_removed, unnamed}
use Rattle.depot_actions.proofs.depot.Depot.remove.Goals as goal

pub returns-then-not-is_user_name : goal.returns-then-not-is_user_name
returns-then-not-is_user_name g c = unnamed g.S.Store c.args.self.now (Remove c.args.user.now c.args.number) (λ _. Done) (search rules)

pub returns : goal.returns
returns g c =
    let old = c.self.inside.store in
    let new = c.remove_entry.new.self in
    let user = c.args.user.now in
    let named : IsTrue (is_user_name user) = search rules in
    let all = c.remove_entry.ensures in
    subst (λ h. Applies g.S.Store h new c.map_err.result (Remove user c.args.number) (λ _. Done)) c.self.view_is
    (entry_removed g.S.Store old new c.remove_entry.result c.map_err.result c.map_err.ensures.cases user c.args.number named all.there all.absent all.begun all.writes all.refused)
