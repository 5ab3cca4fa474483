use Rattle.std.proofs.Common.{IsTrue, ap, option_map, refl, rules, subst}
use Rattle.depot_actions.specs.Applying.{Applies}
use Rattle.depot_actions.specs.DepotState.{Program, ProgramOf}
use Rattle.depot_actions.specs.Users.{is_user_name}
use Rattle.depot_actions.proofs.Applying.{looked, unnamed}
use Rattle.depot_actions.proofs.depot.Depot.program_of.Goals as goal

pub returns-then-not-is_user_name : goal.returns-then-not-is_user_name
returns-then-not-is_user_name g c = unnamed g.S.Store c.args.self.now (ProgramOf c.args.user.now) _ (search rules)

pub returns : goal.returns
returns g c =
    let old = c.self.inside.store in
    let new = c.program_of.new.self in
    let command = ProgramOf c.args.user.now in
    let named : IsTrue (is_user_name c.args.user.now) = search rules in
    subst (λ h. Applies g.S.Store h new c.map_err.result command (λ found. Program (option_map (λ v. v.items) found))) c.self.view_is
    (looked g.S.Store old new c.program_of.result c.map_err.result c.map_err.ensures.cases command named tt (λ found. Program (option_map (λ v. v.items) found)) _
    (λ before found is. record { named = named; step = (ap Program is, refl) })
    (λ h. h) (λ e h. h) (λ h. h) c.program_of.ensures.answer c.program_of.ensures.reads c.program_of.ensures.refused)
