use Rattle.std.proofs.Common.{refl, option_map}
use Rattle.sqlite.proofs.StateLemmas.{clean_if_open}
use Rattle.depot_actions.specs.DepotState.{Program, ProgramOf}
use Rattle.volumes.proofs.Applied.{newest_applied, passed}
use Rattle.volumes.proofs.commands.program_of.Goals as goal

pub returns-in_err-place : goal.returns-in_err-place
returns-in_err-place g c =
    passed g.V.Volumes.holding c.args.volumes.now c.open_newest.new.volumes c.in_err-place.ensures.keeps (ProgramOf c.args.user.now) (λ found. Program (option_map (λ v. v.items) found)) c.from_residual.result _ c.from_residual.ensures.1 c.in_err-place.ensures.which

pub returns : goal.returns
returns g c =
    newest_applied g.S.Store (λ h is_open. clean_if_open (g.S.Store.view h.store) (g.met.S.Store.shut_if_dirty h.store) is_open) g.V.Volumes.holding c.in_ok-place.place c.args.volumes.now c.open_newest.new.volumes c.close.new.self c.in_ok-place.depot c.program_of-result.new.self
    c.in_ok-place.ensures.opened c.close.ensures.closed (ProgramOf c.args.user.now) (λ found. Program (option_map (λ v. v.items) found)) (λ earlier v. refl) c.program_of-result.result c.program_of-result.ensures
