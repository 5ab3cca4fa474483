use Rattle.std.proofs.Common.{◌≡◌, drop, length}
use Rattle.std.specs.List.{prefix_len}
use Rattle.octets.specs.Ascii.{lowercase_of}
use Rattle.header_fields.specs.Hashes.{hash_from, hash_of}
use Rattle.header_fields.specs.Header.{is_name_octet, name_of}
use Rattle.header_fields.proofs.field_line.split_name.Given as goal

-- the octets of the name that are left, after those so far
abbrev pub invariant-octets : goal.invariant-octets
invariant-octets l = record {
  hash : hash_from l.hash (lowercase_of (name_of l.rest)) ≡ hash_of (name_of l.line);
  after : drop (prefix_len is_name_octet l.rest) l.rest ≡ drop (prefix_len is_name_octet l.line) l.line;
}

abbrev pub decreases-octets : goal.decreases-octets
decreases-octets l = length l.rest
