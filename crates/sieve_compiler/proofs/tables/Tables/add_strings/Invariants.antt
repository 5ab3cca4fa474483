use Rattle.std.proofs.Common.{◌≡◌, drop}
use Rattle.sieve_check.specs.TypedView.{templates_of}
use Rattle.sieve_compiler.specs.Growing.{strings_uses, with_uses}
use Rattle.sieve_compiler.proofs.tables.Tables.add_strings.Given as goal

-- what is left, after what was added, gives the same tables as all of it
abbrev pub invariant-loop-string : goal.invariant-loop-string
invariant-loop-string l = with_uses l.self (strings_uses (templates_of (drop l.string-index l.strings))) ≡ with_uses l.initial.self (strings_uses (templates_of l.strings))
