use Rattle.std.proofs.Common.{◌≡◌, take}
use Rattle.std.specs.List.{sum_by}
use Rattle.part_store.specs.declared.entry.EntryRow.{EntryRow}
use Rattle.depot_actions.proofs.inspecting.octets_of.Given as goal

abbrev pub invariant-loop-entry : goal.invariant-loop-entry
invariant-loop-entry l = l.octets ≡ sum_by (λ (e : EntryRow). e.octets) (take l.entry-index l.entries)
