use Rattle.std.proofs.Common.{map, ◌∙◌}
use Rattle.sqlite.specs.Held.{state}
use Rattle.part_store.specs.Standing.{pair_of}
use Rattle.part_store.proofs.ProgramList.{are_programs, pairs_shown}
use Rattle.part_store.proofs.Queries.{tells}
use Rattle.part_store.proofs.Shown.{programs_show}
use Rattle.part_store.proofs.stored_programs.list_programs.Goals as goal

pub returns : goal.returns
returns g c =
    let old = state g.S.Store c.args.tx.now.conn.now in
    let new = state g.S.Store c.list_programs.new.tx.conn.now in
    let rows = c.in_ok-rows.rows.items in
    tells g.S.Store c.args.tx.now.conn c.list_programs.new.tx.conn c.in_ok-rows.rows _ c.in_ok-rows.ensures c.programs_in.result _ _ c.programs_in.ensures _ _
    (λ step programs shown. are_programs old new rows (map pair_of programs.items) step (pairs_shown programs.items ∙ shown))
    (λ step e unshown is before stands named. absurd (unshown is (programs_show old new before stands rows named step)))
