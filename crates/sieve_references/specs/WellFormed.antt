-- What the segments of a string are.
use Rattle.std.specs.Prelude.{◌≡◌, ◌<◌, ◌≤◌, true, length}
use Rattle.sieve_references.specs.References.{Segment, stretch, variable, capture, beyond, foreign, is_identifier, last_capture}

-- a stretch that isn't empty, an identifier, or one of the captures
abbrev pub IsWellFormed : Segment → Type 0
IsWellFormed (stretch octets) = 0 < length octets
IsWellFormed (variable name) = is_identifier name ≡ true
IsWellFormed (capture n) = n ≤ last_capture
IsWellFormed beyond = Unit {0}
IsWellFormed foreign = Unit {0}
