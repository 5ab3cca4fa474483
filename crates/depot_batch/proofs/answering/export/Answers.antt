use Rattle.std.proofs.Common.{ap, inl, inr}
use Rattle.devices.specs.Device.{Output}
use Rattle.depot_batch.proofs.Exporting.{given_up}
use Rattle.depot_batch.proofs.answering.export.Goals as goal

pub returns-in-Err-clause-refused : goal.returns-in-Err-clause-refused
returns-in-Err-clause-refused g c =
    let all = c.in-Err.ensures in
    rw c.give_up.ensures.same (given_up g.S.Store c.in-Err.refusal c.args.name.now c.args.wanted c.args.depot.now c.export.new.self _ _ _ _ _
    c.in_ok-file.ensures.ok c.in_ok-file.ensures.fresh c.give_up.ensures.gone
    (λ is. let broke = all.stopped is in let broken = broke.1 in broken.faults)
    (λ is. elim (all.begun is) [ inl same ↦ ap (λ (o : Output). o.faults) same | inr begun ↦ let some = begun.1 in some.taken.faults ])
    (λ write memory. ap (λ (o : Output). o.faults) (all.unwritten write memory))
    (all.which, λ clean. (all.refused clean, all.cause clean, all.unchanged clean)) all.unchanged)
