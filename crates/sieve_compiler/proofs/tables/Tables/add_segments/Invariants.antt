use Rattle.std.proofs.Common.{◌≡◌, drop}
use Rattle.sieve_compiler.specs.Growing.{segments_uses, with_uses}
use Rattle.sieve_compiler.proofs.tables.Tables.add_segments.Given as goal

-- what is left, after what was added, gives the same tables as all of it
abbrev pub invariant-loop-segment : goal.invariant-loop-segment
invariant-loop-segment l = with_uses l.self (segments_uses (drop l.segment-index l.segments)) ≡ with_uses l.initial.self (segments_uses l.segments)
