use Rattle.std.proofs.Common.{◌∙◌, ◌==◌, not, sym, ap, drop}
use Rattle.std.proofs.lemmas.Bool.{ne_eqb}
use Rattle.std.specs.List.{prefix_len}
use Rattle.octets.specs.Ascii.{lowercase_of}
use Rattle.header_fields.specs.Hashes.{hash_from, hash_more}
use Rattle.header_fields.specs.Header.{is_name_octet, name_of}
use Rattle.header_fields.proofs.FieldLines.{name_cons, name_none, rest_cons, rest_none}
use Rattle.header_fields.proofs.Hashing.{kept_small}
use Rattle.header_fields.proofs.field_line.split_name.Goals as goal

pub octets-preserved : goal.octets-preserved
octets-preserved c =
    let octet = c.in-Some.octet in
    let after = c.in-Some.after.now in
    let passes = sym c.name_octet-folded.ensures.kept ∙ ap not (ne_eqb _ 0 c.if-folded-eq0.false) in
    let small = c.name_octet-folded.ensures.folded ∙ kept_small octet passes in record {
      hash =
          ap (λ h. hash_from h (lowercase_of (name_of after))) (c.hash_more-hash.ensures ∙ ap (hash_more c.octets.hash) small)
          ∙ ap (λ t. hash_from c.octets.hash (lowercase_of t)) (sym (ap name_of c.in-Some.ensures ∙ name_cons octet after passes))
          ∙ c.octets.invariant.hash;
      after = sym (ap (λ t. drop (prefix_len is_name_octet t) t) c.in-Some.ensures ∙ rest_cons octet after passes) ∙ c.octets.invariant.after;
    }

pub returns-then-folded-eq0 : goal.returns-then-folded-eq0
returns-then-folded-eq0 c =
    let octet = c.in-Some.octet in
    let after = c.in-Some.after.now in
    let fails = sym c.name_octet-folded.ensures.kept ∙ ap (λ o. not (o == 0)) c.if-folded-eq0.true in (
      sym (ap (λ t. hash_from c.octets.hash (lowercase_of t)) (ap name_of c.in-Some.ensures ∙ name_none octet after fails)) ∙ c.octets.invariant.hash,
      c.in-Some.ensures ∙ sym (ap (λ t. drop (prefix_len is_name_octet t) t) c.in-Some.ensures ∙ rest_none octet after fails) ∙ c.octets.invariant.after,
    )
