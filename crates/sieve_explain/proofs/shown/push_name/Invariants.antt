use Rattle.std.proofs.Common.{◌≡◌, ◌++◌, take}
use Rattle.sieve_explain.specs.Shown.{shown_name}
use Rattle.sieve_explain.proofs.shown.push_name.Given as goal

abbrev pub invariant-loop-octet : goal.invariant-loop-octet
invariant-loop-octet l = l.out.items ≡ l.initial.out.items ++ shown_name (take l.octet-index l.octet-items)
