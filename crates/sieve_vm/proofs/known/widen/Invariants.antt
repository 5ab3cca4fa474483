use Rattle.std.proofs.Common.{◌≡◌, ℕ, ◌-◌, None, length, slice_index_or}
use Rattle.sieve_vm.proofs.known.widen.Given as goal

abbrev pub invariant-room : goal.invariant-room
invariant-room g l = (other : ℕ) → slice_index_or l.list.items other None ≡ slice_index_or l.initial.list.items other None

abbrev pub decreases-room : goal.decreases-room
decreases-room g l = l.parts - length l.list.items
