use Rattle.std.proofs.Common.{◌≡◌, ◌∙◌, IsTrue, ap, refl, rules, subst}
use Rattle.sqlite.specs.Held.{state}
use Rattle.bytecode_format.specs.Spelling.{spelling}
use Rattle.part_store.specs.Entries.{with_program}
use Rattle.part_store.specs.Refusals.{HasNoUserRoom}
use Rattle.depot_actions.specs.Applying.{Applies}
use Rattle.depot_actions.specs.DepotState.{Done, SetScript}
use Rattle.depot_actions.specs.Users.{is_user_name}
use Rattle.depot_actions.proofs.Applying.{program_stored, script_refused, unnamed}
use Rattle.depot_actions.proofs.depot.Depot.set_script.Goals as goal

pub returns-then-not-is_user_name : goal.returns-then-not-is_user_name
returns-then-not-is_user_name g c = unnamed g.S.Store c.args.self.now (SetScript c.args.user.now c.args.script.now) (λ _. Done) (search rules)

pub returns-in_err-octets : goal.returns-in_err-octets
returns-in_err-octets g c =
    let named : IsTrue (is_user_name c.args.user.now) = search rules in
    script_refused g.S.Store c.args.self.now c.args.user.now c.args.script.now (λ _. Done) c.from_residual.result _ c.from_residual.ensures.1 named c.in_err-octets.ensures.refused

pub returns : goal.returns
returns g c =
    let old = c.self.inside.store in
    let new = c.set_program.new.self in
    let user = c.args.user.now in
    let command = SetScript user c.args.script.now in
    let named : IsTrue (is_user_name user) = search rules in
    let found = c.in_ok-octets.ensures.compiled in
    let octets : c.deref.result.now ≡ spelling found.0 = c.deref.ensures.value ∙ found.2 in
    subst (λ h. Applies g.S.Store h new c.map_err.result command (λ _. Done)) c.self.view_is
    (program_stored g.S.Store old new c.set_program.result c.map_err.result c.map_err.ensures.cases command named (found.0, found.1) user c.deref.result.now
    (λ before. record { named = named; step = (found.0, found.1, refl, ap (λ p. with_program user p before) octets) })
    (λ before none. (found.0, found.1, subst (λ o. HasNoUserRoom user (with_program user o before) (state g.S.Store old).now.trees) octets none))
    (λ h. h) (λ e h. h) (λ h. h) c.set_program.ensures.writes c.set_program.ensures.refused)
