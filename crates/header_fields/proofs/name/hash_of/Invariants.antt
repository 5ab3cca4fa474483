use Rattle.std.proofs.Common.{◌≡◌, length}
use Rattle.octets.specs.Ascii.{lowercase_of}
use Rattle.header_fields.specs.Hashes.{hash_from, hash_of}
use Rattle.header_fields.proofs.name.hash_of.Given as goal

-- the octets that are left, after those so far
abbrev pub invariant-octets : goal.invariant-octets
invariant-octets l = hash_from l.hash (lowercase_of l.rest) ≡ hash_of l.name

abbrev pub decreases-octets : goal.decreases-octets
decreases-octets l = length l.rest
