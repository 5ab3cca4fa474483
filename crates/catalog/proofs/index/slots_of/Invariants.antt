use Rattle.std.proofs.Common.{◌≡◌, ℕ, List, take}
use Rattle.catalog.specs.Index.{found, slots_from}
use Rattle.catalog.proofs.index.slots_of.Given as goal

abbrev pub invariant-loop-at : goal.invariant-loop-at
invariant-loop-at l = (digest : List ℕ) → found l.slots digest ≡ slots_from 0 digest (take l.at l.entries)
