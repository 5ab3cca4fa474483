use Rattle.std.proofs.Common.{◌≡◌, length, take}
use Rattle.std.specs.List.{concat}
use Rattle.glob_match.specs.Captures.{LieWithin, texts}
use Rattle.glob_match.proofs.captures.Captures.gathered.Given as goal

-- the captures so far, in the octets so far
abbrev pub invariant-loop-number : goal.invariant-loop-number
invariant-loop-number l =
    (l.octets.items ≡ concat (take l.number (texts l.value l.self)))
    × (texts l.octets.items l.captures ≡ take l.number (texts l.value l.self))
    × LieWithin (length l.octets.items) l.captures
    × (length l.captures ≡ l.number)
