use Rattle.std.proofs.Common.{◌≡◌, None, replicate}
use Rattle.depot_actions.proofs.kept_parts.no_parts.Given as goal

abbrev pub invariant-loop : goal.invariant-loop
invariant-loop l = l.kept.items ≡ replicate l.counter None
