use Rattle.std.proofs.Common.{◌≡◌, ◌*◌, ◌≤◌, length, sum_by, take}
use Rattle.sieve_vm.proofs.joining.total_len.Given as goal

abbrev pub invariant-loop-place : goal.invariant-loop-place
invariant-loop-place g l = (l.total ≡ sum_by length (take l.place (g.T.Texts.texts l.texts))) × (l.total ≤ l.place * 16384)
