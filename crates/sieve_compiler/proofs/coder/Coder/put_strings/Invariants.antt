use Rattle.std.proofs.Common.{take}
use Rattle.sieve_check.specs.TypedView.{templates_of}
use Rattle.sieve_compiler.specs.Coding.{strings_code}
use Rattle.sieve_compiler.specs.Putting.{Puts}
use Rattle.sieve_compiler.proofs.coder.Coder.put_strings.Given as goal

abbrev pub invariant-loop-string : goal.invariant-loop-string
invariant-loop-string l = Puts l.initial.self l.self (strings_code l.initial.self.tables.now (templates_of (take l.string-index l.strings)))
