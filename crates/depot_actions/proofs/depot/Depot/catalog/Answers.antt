use Rattle.std.proofs.Common.{IsTrue, rules, subst}
use Rattle.depot_actions.specs.Applying.{Applies}
use Rattle.depot_actions.specs.DepotState.{Catalog, Text}
use Rattle.depot_actions.specs.Users.{is_user_name}
use Rattle.depot_actions.proofs.Applying.{unnamed}
use Rattle.depot_actions.proofs.KeepingRows.{catalogued}
use Rattle.depot_actions.proofs.depot.Depot.catalog.Goals as goal

pub returns-then-not-is_user_name : goal.returns-then-not-is_user_name
returns-then-not-is_user_name g c = unnamed g.S.Store c.args.self.now (Catalog c.args.user.now c.args.number) (λ text. Text text.items) (search rules)

pub returns : goal.returns
returns g c =
    let old = c.self.inside.store in
    let new = c.catalog_of.new.store in
    let named : IsTrue (is_user_name c.args.user.now) = search rules in
    subst (λ h. Applies g.S.Store h new c.catalog_of.result (Catalog c.args.user.now c.args.number) (λ text. Text text.items)) c.self.view_is
    (catalogued g.S.Store old new c.catalog_of.result c.args.user.now c.args.number named c.catalog_of.ensures.answer c.catalog_of.ensures.unchanged c.catalog_of.ensures.refused c.catalog_of.ensures.cause
    c.catalog_of.ensures.survives)
