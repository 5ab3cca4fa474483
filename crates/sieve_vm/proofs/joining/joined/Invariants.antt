use Rattle.std.proofs.Common.{◌≡◌, take}
use Rattle.std.specs.List.{concat}
use Rattle.octets.specs.Limits.{max_string}
use Rattle.sieve_vm.proofs.joining.joined.Given as goal

abbrev pub invariant-loop-place : goal.invariant-loop-place
invariant-loop-place g l = l.out.items ≡ take max_string (concat (take l.place (g.T.Texts.texts l.texts)))
