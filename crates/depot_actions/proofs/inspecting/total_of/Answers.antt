use Rattle.part_store.specs.Tables.{contents_tree}
use Rattle.part_store.specs.Totals.{octets_of}
use Rattle.depot_actions.proofs.StoreFaults.{fault_told, weaker_fault}
use Rattle.depot_actions.specs.Causes.{IsUncounted}
use Rattle.std.proofs.lemmas.Result.{IfErr-weaker}
use Rattle.std.proofs.Common.{◌^◌, ◌≤◌, inl}
use Rattle.sqlite.specs.Held.{state}
use Rattle.depot_actions.proofs.inspecting.total_of.Goals as goal

pub returns-clause-cause : goal.returns-clause-cause
returns-clause-cause g c clean =
    let old = state g.S.Store c.args.store.now in
    let new = state g.S.Store c.contents.new.self in
    IfErr-weaker c.map_err.result _ _ (λ e. weaker_fault (λ _ db. 2 ^ 64 ≤ octets_of (db contents_tree)) IsUncounted old new e (λ before stands more. inl more))
    (fault_told (λ _ db. 2 ^ 64 ≤ octets_of (db contents_tree)) old new c.contents.result c.map_err.result c.map_err.ensures.cases (c.contents.ensures.refused.cause clean))
