use Rattle.std.proofs.Common.{◌≡◌, IsTrue, OnOk, arith, inl, inr, length, map, option_map, rules, subst}
use Rattle.std.proofs.lemmas.Result.{IfOk-at_ok, IfOk-weaker, IfErr-weaker}
use Rattle.std.proofs.lemmas.Grind.{common_steps}
use Rattle.sqlite.specs.Held.{state}
use Rattle.sqlite.specs.State.{HasCleanDisk}
use Rattle.mime_decode.proofs.MailLemmas.{octets_are}
use Rattle.part_store.specs.Inside.{Stays, StaysInside}
use Rattle.part_store.specs.Standing.{listed}
use Rattle.depot_actions.specs.Causes.{IsFault, IsHindered, IsSpoilt}
use Rattle.depot_actions.specs.DepotState.{Deliver}
use Rattle.depot_actions.specs.Users.{is_user_name}
use Rattle.depot_actions.proofs.Commands.{ok_before}
use Rattle.depot_actions.proofs.Delivering.{delivered, no_actions, nothing_delivered, some_actions, unfiled_cause, delivery_fault}
use Rattle.depot_actions.proofs.StoreFaults.{failure_told, of_refusal, passed_on}
use Rattle.depot_actions.proofs.deliveries.deliver_within.Goals as goal

pub file_all-requires-clause-octets : goal.file_all-requires-clause-octets
file_all-requires-clause-octets g c = rw c.in_ok-mail.ensures.read.1 (octets_are c.args.message.now)

pub returns-then-is_empty-clause-done : goal.returns-then-is_empty-clause-done
returns-then-is_empty-clause-done g c clean =
    let old = state g.S.Store c.args.tx.now.tx.now.conn.now in
    let mid = state g.S.Store c.program_of.new.self.tx.now.conn.now in
    let user = c.args.user.now in
    let message = c.args.message.now in
    let actions = c.in_ok-actions.actions.items in
    let named : IsTrue (is_user_name user) = search rules in
    let zero : length actions ≡ 0 = grind (arith, common_steps) in
    let are = rw c.in_ok-mail.ensures.read.1 at c.in_ok-actions.ensures.actions in
    let found = ok_before c.program_of.result c.map_err.result _ c.in_ok-program.program c.map_err.ensures.cases c.map_err.ensures.variant c.in_ok-program.was in
    let told = IfOk-at_ok _ found (c.program_of.ensures.answer clean) in
    let stays = subst (λ r. OnOk r (Stays old mid)) found (c.program_of.ensures.same clean) in
    rw c.new.ensures.items
    (nothing_delivered old mid mid user message (option_map (λ v. v.items) c.in_ok-program.program) actions named c.in_ok-mail.ensures.read.0 are told stays (no_actions actions zero))

pub returns-clause-done : goal.returns-clause-done
returns-clause-done g c clean =
    let old = state g.S.Store c.args.tx.now.tx.now.conn.now in
    let mid = state g.S.Store c.program_of.new.self.tx.now.conn.now in
    let new = state g.S.Store c.file_all.new.tx.tx.now.conn.now in
    let user = c.args.user.now in
    let message = c.args.message.now in
    let actions = c.deref.result.now in
    let named : IsTrue (is_user_name user) = search rules in
    let some = some_actions (length actions) _ c.is_empty.result c.is_empty.ensures c.if-is_empty.false c.deref.ensures.len in
    let early : HasCleanDisk mid = omega (arith, c.file_all.ensures.within.survives.clean) in
    let are = rw (c.in_ok-mail.ensures.read.1, ← c.deref.ensures.value) at c.in_ok-actions.ensures.actions in
    let found = ok_before c.program_of.result c.map_err.result _ c.in_ok-program.program c.map_err.ensures.cases c.map_err.ensures.variant c.in_ok-program.was in
    let told = IfOk-at_ok _ found (c.program_of.ensures.answer early) in
    let stays = subst (λ r. OnOk r (Stays old mid)) found (c.program_of.ensures.same early) in
    let added = rw c.in_ok-mail.ensures.read.1 at (c.file_all.ensures.added clean) in
    IfOk-weaker c.file_all.result _ _ (λ rows h.
    delivered old mid new user message (option_map (λ v. v.items) c.in_ok-program.program) actions named c.in_ok-mail.ensures.read.0 are told stays some (map listed rows.items) h) added

pub returns-clause-refused : goal.returns-clause-refused
returns-clause-refused g c clean =
    let old = state g.S.Store c.args.tx.now.tx.now.conn.now in
    let mid = state g.S.Store c.program_of.new.self.tx.now.conn.now in
    let new = state g.S.Store c.file_all.new.tx.tx.now.conn.now in
    let user = c.args.user.now in
    let message = c.args.message.now in
    let actions = c.deref.result.now in
    let named : IsTrue (is_user_name user) = search rules in
    let early : HasCleanDisk mid = omega (arith, c.file_all.ensures.within.survives.clean) in
    let are = rw (c.in_ok-mail.ensures.read.1, ← c.deref.ensures.value) at c.in_ok-actions.ensures.actions in
    let found = ok_before c.program_of.result c.map_err.result _ c.in_ok-program.program c.map_err.ensures.cases c.map_err.ensures.variant c.in_ok-program.was in
    let told = IfOk-at_ok _ found (c.program_of.ensures.answer early) in
    let stays = subst (λ r. OnOk r (Stays old mid)) found (c.program_of.ensures.same early) in
    let unfiled = rw c.in_ok-mail.ensures.read.1 at (c.file_all.ensures.refused clean) in
    IfErr-weaker c.file_all.result _ _ (λ e h.
    unfiled_cause old mid new user message (option_map (λ v. v.items) c.in_ok-program.program) actions named c.in_ok-mail.ensures.read.0 are told stays (c.program_of.ensures.within.stays_closed early) e h) unfiled

pub returns-in_err-program-clause-cause : goal.returns-in_err-program-clause-cause
returns-in_err-program-clause-cause g c clean =
    let old = state g.S.Store c.args.tx.now.tx.now.conn.now in
    let new = state g.S.Store c.program_of.new.self.tx.now.conn.now in
    let command = Deliver c.args.user.now c.args.message.now in
    let fault = failure_told (IsHindered command) old new c.program_of.result c.map_err.result c.map_err.ensures.cases (c.program_of.ensures.refused.cause clean) in
    IfErr-weaker c.from_residual-in_err-program.result _ _ (λ e h inside. h)
    (passed_on c.from_residual-in_err-program.result _ (IsFault command old new) c.from_residual-in_err-program.ensures.1 (of_refusal c.map_err.result _ _ c.in_err-program.was fault))

pub returns-in_err-actions-clause-cause : goal.returns-in_err-actions-clause-cause
returns-in_err-actions-clause-cause g c clean =
    let found = ok_before c.program_of.result c.map_err.result _ c.in_ok-program.program c.map_err.ensures.cases c.map_err.ensures.variant c.in_ok-program.was in
    let told = IfOk-at_ok _ found (c.program_of.ensures.answer clean) in
    passed_on c.from_residual-in_err-actions.result _ _ c.from_residual-in_err-actions.ensures.1 (λ inside is before stands. inr (inl (subst IsSpoilt (told before stands) (c.in_err-actions.ensures.refused.cause is))))

pub returns-clause-cause : goal.returns-clause-cause
returns-clause-cause g c clean =
    let old = state g.S.Store c.args.tx.now.tx.now.conn.now in
    let mid = state g.S.Store c.program_of.new.self.tx.now.conn.now in
    let new = state g.S.Store c.file_all.new.tx.tx.now.conn.now in
    let user = c.args.user.now in
    let message = c.args.message.now in
    let actions = c.deref.result.now in
    let named : IsTrue (is_user_name user) = search rules in
    let early : HasCleanDisk mid = omega (arith, clean, c.file_all.ensures.within.survives.clean) in
    let are = rw (c.in_ok-mail.ensures.read.1, ← c.deref.ensures.value) at c.in_ok-actions.ensures.actions in
    let found = ok_before c.program_of.result c.map_err.result _ c.in_ok-program.program c.map_err.ensures.cases c.map_err.ensures.variant c.in_ok-program.was in
    let told = IfOk-at_ok _ found (c.program_of.ensures.answer early) in
    let stays = subst (λ r. OnOk r (Stays old mid)) found (c.program_of.ensures.same early) in
    let still = subst (λ r. OnOk r (StaysInside old mid)) found (c.program_of.ensures.inside early) in
    let fault = rw c.in_ok-mail.ensures.read.1 at (c.file_all.ensures.cause clean) in
    IfErr-weaker c.file_all.result _ _ (λ e h inside is before stands.
    delivery_fault old mid new user message (option_map (λ v. v.items) c.in_ok-program.program) actions named c.in_ok-mail.ensures.read.0 are told stays e
    c.program_of.ensures.within.survives c.file_all.ensures.within.survives clean (h (still stands.schema inside)) is before stands) fault
