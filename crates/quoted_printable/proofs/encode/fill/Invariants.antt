use Rattle.std.proofs.Common.{◌-◌, length}
use Rattle.quoted_printable.proofs.Filling.{IsFilled}
use Rattle.quoted_printable.proofs.encode.fill.Given as goal

abbrev pub invariant-tokens : goal.invariant-tokens
invariant-tokens l = IsFilled l.octets l.room l.line l.taken l.len

abbrev pub decreases-tokens : goal.decreases-tokens
decreases-tokens l = length l.octets - l.taken
