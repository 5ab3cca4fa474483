use Rattle.std.proofs.Common.{inl, inr}
use Rattle.std.proofs.lemmas.Result.{IfErr-weaker, IfOk-weaker}
use Rattle.sqlite.proofs.StateLemmas.{clean_if_open}
use Rattle.volumes.proofs.Applied.{clean_after, keeps_whole}
use Rattle.volumes.proofs.Reading.{read_keeps}
use Rattle.volumes.proofs.Sought.{export_cause, exported, few_closed}
use Rattle.volumes.proofs.commands.export.Goals as goal

pub returns-in_err-place-clause-keeps : goal.returns-in_err-place-clause-keeps
returns-in_err-place-clause-keeps g c = keeps_whole g.V.Volumes.holding c.args.volumes.now c.open_with.new.volumes c.in_err-place.ensures.keeps

pub returns-clause-done : goal.returns-clause-done
returns-clause-done g c =
    IfOk-weaker c.export-result.result _ _ (λ _ h. (h.0, h.1, exported g.S.Store (λ h is_open. clean_if_open (g.S.Store.view h.store) (g.met.S.Store.shut_if_dirty h.store) is_open) g.V.Volumes.holding c.args.user.now c.args.number c.in_ok-place.place c.args.volumes.now c.open_with.new.volumes c.close.new.self c.in_ok-place.depot c.export-result.new.self c.in_ok-place.ensures.opened c.close.ensures.closed c.args.encoding h.0 h.2)) c.export-result.ensures.done

pub returns-clause-stopped : goal.returns-clause-stopped
returns-clause-stopped g c =
    IfErr-weaker c.export-result.result _ _ (λ e told is. let h = told is in (h.0, h.1, exported g.S.Store (λ h is_open. clean_if_open (g.S.Store.view h.store) (g.met.S.Store.shut_if_dirty h.store) is_open) g.V.Volumes.holding c.args.user.now c.args.number c.in_ok-place.place c.args.volumes.now c.open_with.new.volumes c.close.new.self c.in_ok-place.depot c.export-result.new.self c.in_ok-place.ensures.opened c.close.ensures.closed c.args.encoding h.0 h.2)) c.export-result.ensures.stopped

pub returns-clause-begun : goal.returns-clause-begun
returns-clause-begun g c =
    IfErr-weaker c.export-result.result _ _ (λ e told is. elim (told is) [ inl same ↦ inl same | inr h ↦ inr (h.0, h.1, exported g.S.Store (λ h is_open. clean_if_open (g.S.Store.view h.store) (g.met.S.Store.shut_if_dirty h.store) is_open) g.V.Volumes.holding c.args.user.now c.args.number c.in_ok-place.place c.args.volumes.now c.open_with.new.volumes c.close.new.self c.in_ok-place.depot c.export-result.new.self c.in_ok-place.ensures.opened c.close.ensures.closed c.args.encoding h.0 h.2) ]) c.export-result.ensures.begun

pub returns-clause-keeps : goal.returns-clause-keeps
returns-clause-keeps g c =
    keeps_whole g.V.Volumes.holding c.args.volumes.now c.close.new.self (read_keeps g.S.Store (λ h is_open. clean_if_open (g.S.Store.view h.store) (g.met.S.Store.shut_if_dirty h.store) is_open) g.V.Volumes.holding c.in_ok-place.place c.args.volumes.now c.open_with.new.volumes c.close.new.self c.in_ok-place.depot c.export-result.new.self c.in_ok-place.ensures.opened.opened c.close.ensures.closed c.export-result.ensures.unchanged)

pub returns-clause-which : goal.returns-clause-which
returns-clause-which g c = IfErr-weaker c.export-result.result _ _ (λ e may. inl may) c.export-result.ensures.which

pub returns-clause-cause : goal.returns-clause-cause
returns-clause-cause g c = λ sound before holds are.
    IfErr-weaker c.export-result.result _ _ (λ e cause. export_cause g.S.Store (λ h is_open. clean_if_open (g.S.Store.view h.store) (g.met.S.Store.shut_if_dirty h.store) is_open) g.V.Volumes.holding c.args.user.now c.args.number c.in_ok-place.place c.args.volumes.now c.open_with.new.volumes c.close.new.self c.in_ok-place.depot c.export-result.new.self c.in_ok-place.ensures.opened c.close.ensures.closed c.args.encoding e c.export-result.ensures.unchanged (λ clean. cause) sound before holds are) (c.export-result.ensures.refused (clean_after g.S.Store (λ h is_open. clean_if_open (g.S.Store.view h.store) (g.met.S.Store.shut_if_dirty h.store) is_open) g.V.Volumes.holding c.in_ok-place.place c.args.volumes.now c.open_with.new.volumes c.close.new.self c.in_ok-place.depot c.export-result.new.self c.in_ok-place.ensures.opened.opened c.close.ensures.closed sound))

pub returns-clause-few : goal.returns-clause-few
returns-clause-few g c = few_closed g.V.Volumes.holding c.args.volumes.now c.open_with.new.volumes c.close.new.self c.open_with.ensures.few c.close.ensures.counted
