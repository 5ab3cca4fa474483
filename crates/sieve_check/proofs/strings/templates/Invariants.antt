use Rattle.std.proofs.Common.{◌≡◌, ◌∷◌, ◌++◌, map, drop}
use Rattle.sieve_check.specs.FormOf.{template_of}
use Rattle.sieve_check.specs.TypedView.{templates_of}
use Rattle.sieve_check.proofs.strings.templates.Given as goal

abbrev pub invariant-loop-string : goal.invariant-loop-string
invariant-loop-string l = templates_of l.all.items ++ map (template_of l.required) (drop l.string-index l.others) ≡ map (template_of l.required) (l.first ∷ l.others)
