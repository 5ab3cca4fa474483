use Rattle.std.proofs.Common.{◌≤◌, ◌-◌, length}
use Rattle.memchr.specs.Find.{Nowhere, OccursAt}
use Rattle.glob_match.specs.Comparison.{compared}
use Rattle.glob_match.specs.declared.comparator.Comparator.TheVariants.{Casemap}
use Rattle.glob_match.proofs.search.find_in_windows.Given as goal

abbrev pub invariant-windows : goal.invariant-windows
invariant-windows l = (l.start ≤ length l.value) × Nowhere (OccursAt (compared Casemap l.value) l.finder) 0 l.start
    × (l.len ≤ l.room) × (l.room ≤ length l.window)

abbrev pub decreases-windows : goal.decreases-windows
decreases-windows l = length l.value - l.start
