use Rattle.std.proofs.Common.{◌≡◌, ◌++◌, take}
use Rattle.std.specs.Prelude.{flat_map}
use Rattle.sieve_explain.specs.Shown.{escaped_in}
use Rattle.sieve_explain.proofs.shown.push_octets.Given as goal

abbrev pub invariant-loop-octet : goal.invariant-loop-octet
invariant-loop-octet l = l.out.items ≡ l.initial.out.items ++ flat_map (escaped_in l.style) (take l.octet-index l.octets)
