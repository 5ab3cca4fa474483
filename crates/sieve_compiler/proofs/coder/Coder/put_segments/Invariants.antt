use Rattle.std.proofs.Common.{map, take}
use Rattle.sieve_compiler.specs.Coding.{push_segment}
use Rattle.sieve_compiler.specs.Putting.{Puts}
use Rattle.sieve_compiler.proofs.coder.Coder.put_segments.Given as goal

abbrev pub invariant-loop-segment : goal.invariant-loop-segment
invariant-loop-segment l = Puts l.initial.self l.self (map (push_segment l.initial.self.tables.now) (take l.segment-index l.segments))
