use Rattle.depot_actions.specs.DepotState.{Does, Export, Text}
use Rattle.depot_actions.proofs.Applying.{exported}
use Rattle.depot_actions.proofs.StoreFaults.{failure_told, fault_told, of_refusal, passed_on}
use Rattle.std.proofs.Common.{IfErr, IsTrue, rules, subst}
use Rattle.std.proofs.lemmas.Result.{IfErr-weaker, IfOk-weaker}
use Rattle.depot_actions.specs.Causes.{IsFault, IsHindered, IsStoreFault}
use Rattle.devices.specs.Device.{HasStopped}
use Rattle.encodings.specs.Texts.{text_of}
use Rattle.part_store.specs.Calls.{Always}
use Rattle.part_store.specs.Standing.{HaveDigests}
use Rattle.sqlite.specs.Held.{state}
use Rattle.depot_actions.specs.Users.{is_user_name}
use Rattle.depot_actions.proofs.Commands.{unchanged_self}
use Rattle.depot_actions.proofs.depot.Depot.export.Goals as goal

pub returns-then-not-is_user_name-clause-unchanged : goal.returns-then-not-is_user_name-clause-unchanged
returns-then-not-is_user_name-clause-unchanged g c clean = unchanged_self (state g.S.Store c.args.self.now)

pub returns-in_err-octets-clause-cause : goal.returns-in_err-octets-clause-cause
returns-in_err-octets-clause-cause g c clean =
    let old = state g.S.Store c.self.inside.store in
    let new = state g.S.Store c.bytes_of.new.self in
    let command = Export c.args.user.now c.args.number c.args.encoding in
    let fault = fault_told (IsHindered command) old new c.bytes_of.result c.map_err.result c.map_err.ensures.cases
    (IfErr-weaker c.bytes_of.result _ _ (λ e cause is before stands. cause is stands.schema) (c.bytes_of.ensures.refused.cause clean)) in
    subst (λ h. IfErr c.from_residual.result (IsFault command (state g.S.Store h) new)) c.self.view_is
    (passed_on c.from_residual.result _ _ c.from_residual.ensures.1 (of_refusal c.map_err.result _ _ c.in_err-octets.was fault))

pub returns-in_err-octets-clause-sound : goal.returns-in_err-octets-clause-sound
returns-in_err-octets-clause-sound g c clean =
    let old = state g.S.Store c.self.inside.store in
    let new = state g.S.Store c.bytes_of.new.self in
    subst (λ h. IfErr c.from_residual.result (λ e. HaveDigests (state g.S.Store h).now.trees → IsStoreFault (λ _ _. ⊥) (state g.S.Store h) new e)) c.self.view_is
    (passed_on c.from_residual.result _ _ c.from_residual.ensures.1 (λ have.
    of_refusal c.map_err.result _ _ c.in_err-octets.was (failure_told (λ _ _. ⊥) old new c.bytes_of.result c.map_err.result c.map_err.ensures.cases
    (IfErr-weaker c.bytes_of.result _ _ (λ e sound. sound have) (c.bytes_of.ensures.sound clean)))))

pub returns-clause-done : goal.returns-clause-done
returns-clause-done g c =
    let new = c.bytes_of.new.self in
    let command = Export c.args.user.now c.args.number c.args.encoding in
    let text = text_of c.args.encoding c.deref.result.now in
    let named : IsTrue (is_user_name c.args.user.now) = search rules in
    IfOk-weaker c.put_text.result _ _ (λ _ taken. (
      text,
      taken,
      subst (λ h. Always g.S.Store h new (Does command (Text text))) c.self.view_is
          (exported g.S.Store c.self.inside.store new c.bytes_of.result c.map_err.result c.map_err.ensures.cases c.in_ok-octets.octets c.in_ok-octets.was c.args.user.now c.args.number c.args.encoding c.deref.result.now named
          c.deref.ensures.value c.bytes_of.ensures.answer c.bytes_of.ensures.reads),
    )) c.put_text.ensures.put.ok

pub returns-clause-stopped : goal.returns-clause-stopped
returns-clause-stopped g c =
    let new = c.bytes_of.new.self in
    let command = Export c.args.user.now c.args.number c.args.encoding in
    let text = text_of c.args.encoding c.deref.result.now in
    let named : IsTrue (is_user_name c.args.user.now) = search rules in
    IfErr-weaker c.put_text.result _ _ (λ e stopped is. (
      text,
      subst (λ w. HasStopped w text (g.W.Sink.output c.args.writer.now) (g.W.Sink.output c.put_text.new.writer)) is stopped,
      subst (λ h. Always g.S.Store h new (Does command (Text text))) c.self.view_is
          (exported g.S.Store c.self.inside.store new c.bytes_of.result c.map_err.result c.map_err.ensures.cases c.in_ok-octets.octets c.in_ok-octets.was c.args.user.now c.args.number c.args.encoding c.deref.result.now named
          c.deref.ensures.value c.bytes_of.ensures.answer c.bytes_of.ensures.reads),
    )) c.put_text.ensures.put.err
