-- The hashes of names, by which a search passes over fields: what a header keeps, and no public contract names.
use Rattle.std.specs.Prelude.{ℕ, ◌+◌, ◌*◌, ◌%◌, ◌^◌, List, [], ◌∷◌, map}
use Rattle.octets.specs.Ascii.{lowercase_of}
use Rattle.header_fields.specs.Fields.{Field}

-- the hash of some octets and one more
abbrev pub hash_more : ℕ → ℕ → ℕ
hash_more hash octet = ((hash * 31) % 2 ^ 32 + octet) % 2 ^ 32

-- the hash of octets after others of this hash
abbrev pub hash_from : ℕ → List ℕ → ℕ
hash_from hash [] = hash
hash_from hash (octet ∷ octets) = hash_from (hash_more hash octet) octets

-- the hash of a name, in which ASCII case makes no difference
abbrev pub hash_of : List ℕ → ℕ
hash_of name = hash_from 0 (lowercase_of name)

-- the hashes of the names of fields
abbrev pub hashes_of : List Field → List ℕ
hashes_of fields = map (λ (field : Field). hash_of field.name) fields
