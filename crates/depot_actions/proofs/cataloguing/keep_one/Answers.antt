use Rattle.depot_actions.proofs.StoreFaults.{passed_on, weaker_fault}
use Rattle.depot_actions.specs.Cataloguing.{IsUnkept}
use Rattle.part_store.specs.Standing.{HasNone}
use Rattle.part_store.specs.Verifying.{IsAltered}
use Rattle.std.proofs.Common.{◌⊎◌, [], inl, sym, ap, ◌∙◌}
use Rattle.catalog.specs.Catalog.{Filed}
use Rattle.sqlite.specs.Held.{state}
use Rattle.depot_actions.proofs.KeepingRows.{keep_fault, keep_refused, kept_of_row}
use Rattle.depot_actions.proofs.cataloguing.keep_one.Goals as goal

pub returns-in_err-octets-clause-cause : goal.returns-in_err-octets-clause-cause
returns-in_err-octets-clause-cause g c clean =
    let old = state g.S.Store c.args.store.now in
    let new = state g.S.Store c.content_of.new.store in
    let user = c.args.user.now in
    let row = c.args.row.now in
    passed_on c.from_residual.result _ _ c.from_residual.ensures.1
    (weaker_fault (λ before db. IsAltered db user row.number ⊎ HasNone before user row.number) (IsUnkept user row) old new _ (λ before stands lost. inl lost) (c.in_err-octets.ensures.cause clean))

pub returns-clause-answer : goal.returns-clause-answer
returns-clause-answer g c clean =
    kept_of_row c.args.user.now c.args.row.now (state g.S.Store c.args.store.now) c.listed_of.result _ c.keep.result c.map_err.result c.map_err.ensures.cases c.listed_of.ensures
    (λ before stands. let (x, at, is) = c.in_ok-octets.ensures.answer clean before stands in (x, at, c.as_slice.ensures.value ∙ is)) c.keep.ensures.kept

pub returns-clause-refused : goal.returns-clause-refused
returns-clause-refused g c = keep_refused c.keep.result c.map_err.result c.map_err.ensures.cases

pub returns-clause-cause : goal.returns-clause-cause
returns-clause-cause g c clean =
    keep_fault c.args.user.now c.args.row.now (state g.S.Store c.args.store.now) (state g.S.Store c.content_of.new.store) _ _ c.keep.result c.map_err.result c.map_err.ensures.cases
    (λ before stands. let (x, at, is) = c.in_ok-octets.ensures.answer clean before stands in (x, at, c.as_slice.ensures.value ∙ is)) (ap (λ (f : Filed). f.is_message) (c.listed_of.ensures [])) c.keep.ensures.refused
