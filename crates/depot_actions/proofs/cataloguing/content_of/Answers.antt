use Rattle.std.proofs.Common.{◌≡◌}
use Rattle.part_store.specs.Entries.{Entries, Entry}
use Rattle.part_store.specs.Standing.{IsEntryAt, Stands}
use Rattle.sqlite.specs.Held.{state}
use Rattle.depot_actions.specs.Cataloguing.{of_listed}
use Rattle.depot_actions.proofs.KeepingRows.{content_fault, told_ok}
use Rattle.depot_actions.proofs.cataloguing.content_of.Goals as goal

pub returns-clause-answer : goal.returns-clause-answer
returns-clause-answer g c clean =
    told_ok of_listed (λ octets. (before : Entries) → Stands (state g.S.Store c.args.store.now).now before → (x : Entry) × IsEntryAt before c.args.user.now c.args.number x × (octets.items ≡ x.octets))
    c.bytes_of.result c.map_err.result c.map_err.ensures.cases (c.bytes_of.ensures.answer clean)

pub returns-clause-cause : goal.returns-clause-cause
returns-clause-cause g c clean =
    content_fault c.args.user.now c.args.number (state g.S.Store c.args.store.now) (state g.S.Store c.bytes_of.new.self) c.bytes_of.result c.map_err.result c.map_err.ensures.cases (c.bytes_of.ensures.refused.cause clean)
    (c.bytes_of.ensures.absent clean)
