use Rattle.std.proofs.Common.{◌≡◌, ◌++◌, take}
use Rattle.sieve_trace.specs.Printed.{named}
use Rattle.sieve_trace.proofs.label.push_name.Given as goal

abbrev pub invariant-loop-octet : goal.invariant-loop-octet
invariant-loop-octet l = l.out.items ≡ l.initial.out.items ++ named (take l.octet-index l.name)
