use Rattle.std.proofs.Common.{◌≡◌, ◌+◌, drop}
use Rattle.sieve_check.specs.TypedView.{templates_of}
use Rattle.sieve_compiler.specs.Lengths.{strings_length}
use Rattle.sieve_compiler.proofs.lengths.strings_length.Given as goal

-- what was counted and what is left is all
abbrev pub invariant-loop-string : goal.invariant-loop-string
invariant-loop-string l = l.total + strings_length (templates_of (drop l.string-index l.strings)) ≡ strings_length (templates_of l.strings)
