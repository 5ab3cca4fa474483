use Rattle.std.proofs.Common.{◌≡◌, [], None, map, replicate}
use Rattle.mail_matching.specs.FirstMatch.{no_captures}
use Rattle.sieve_vm.specs.SharedTexts.{items_of}
use Rattle.sieve_vm.proofs.workspace.Workspace.begin.Given as goal

abbrev pub invariant-variables : goal.invariant-variables
invariant-variables l = (map items_of l.self.variables.items ≡ replicate l.counter []) × (l.self.top ≡ None) × (l.self.entries.items ≡ []) × (l.self.captures ≡ no_captures)
