use Rattle.std.proofs.Common.{◌≡◌, ℕ, List, map, take}
use Rattle.std.specs.Borrow.{Bor}
use Rattle.bytecode_format.proofs.string_table.StringTable.to_list.Given as goal

abbrev pub invariant-loop-text : goal.invariant-loop-text
invariant-loop-text l = l.list.items ≡ map (λ (text : Bor (List ℕ)). text.now) (take l.text-index l.text-items)
