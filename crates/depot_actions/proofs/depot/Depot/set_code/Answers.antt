use Rattle.std.proofs.Common.{IsTrue, refl, rules, subst}
use Rattle.depot_actions.specs.Applying.{Applies}
use Rattle.depot_actions.specs.DepotState.{Done, SetCode}
use Rattle.depot_actions.specs.Users.{is_user_name}
use Rattle.depot_actions.proofs.Applying.{program_refused, program_stored, unnamed}
use Rattle.depot_actions.proofs.depot.Depot.set_code.Goals as goal

pub returns-then-not-is_user_name : goal.returns-then-not-is_user_name
returns-then-not-is_user_name g c = unnamed g.S.Store c.args.self.now (SetCode c.args.user.now c.args.program.now) (λ _. Done) (search rules)

pub returns-in_err-check_code : goal.returns-in_err-check_code
returns-in_err-check_code g c =
    let named : IsTrue (is_user_name c.args.user.now) = search rules in
    program_refused g.S.Store c.args.self.now c.args.user.now c.args.program.now (λ _. Done) c.from_residual.result _ c.from_residual.ensures.1 named c.in_err-check_code.ensures.refused

pub returns : goal.returns
returns g c =
    let old = c.self.inside.store in
    let new = c.set_program.new.self in
    let user = c.args.user.now in
    let program = c.args.program.now in
    let command = SetCode user program in
    let named : IsTrue (is_user_name user) = search rules in
    let found = c.in_ok-check_code.ensures.checked in
    subst (λ h. Applies g.S.Store h new c.map_err.result command (λ _. Done)) c.self.view_is
    (program_stored g.S.Store old new c.set_program.result c.map_err.result c.map_err.ensures.cases command named found user program
    (λ before. record { named = named; step = (found.0, found.1, refl, refl) }) (λ before none. none)
    (λ h. h) (λ e h. h) (λ h. h) c.set_program.ensures.writes c.set_program.ensures.refused)
