use Rattle.std.proofs.Common.{◌∙◌, sym, ap}
use Rattle.octets.specs.Ascii.{lowercase_of}
use Rattle.header_fields.specs.Hashes.{hash_from, hash_more}
use Rattle.header_fields.proofs.name.hash_of.Goals as goal

pub octets-preserved : goal.octets-preserved
octets-preserved c =
    ap (λ h. hash_from h (lowercase_of c.in-Some.after.now)) (c.hash_more-hash.ensures ∙ ap (hash_more c.octets.hash) c.to_ascii_lowercase.ensures.value)
    ∙ ap (λ t. hash_from c.octets.hash (lowercase_of t)) (sym c.in-Some.ensures)
    ∙ c.octets.invariant
