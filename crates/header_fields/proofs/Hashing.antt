-- Names with different hashes, and hashes of fields.
use Rattle.std.proofs.Common.{◌≡◌, ◌≢◌, ◌∙◌, ◌++◌, ◌∷◌, [], ℕ, List, true, false, cond, ap, sym, inl, inr}
use Rattle.std.specs.Char.{to_ascii_lowercase}
use Rattle.std.proofs.lemmas.Bool.{cases_Bool}
use Rattle.std.proofs.lemmas.List.{map-append}
use Rattle.std.proofs.lemmas.Slice.Eq.{bytes_eq-Decides}
use Rattle.octets.specs.Ascii.{lowercase_of, is_word}
use Rattle.header_fields.specs.Fields.{Field}
use Rattle.header_fields.specs.Header.{is_name_octet}
use Rattle.header_fields.specs.Hashes.{hash_from, hash_of, hashes_of}
use Rattle.header_fields.specs.Reading.{name_octet}

-- they are different names
pub other_name : (a b : List ℕ) → hash_of a ≢ hash_of b → is_word a b ≡ false
other_name a b other = elim (cases_Bool (is_word a b)) [
  | inl same ↦ absurd (other (ap (hash_from 0) ((bytes_eq-Decides (lowercase_of a) (lowercase_of b)).0 same)))
  | inr differs ↦ differs
]

-- an octet of a name is kept as a small letter
pub kept_small : (octet : ℕ) → is_name_octet octet ≡ true → name_octet octet ≡ to_ascii_lowercase octet
kept_small octet passes = ap (λ b. cond b (to_ascii_lowercase octet) 0) passes

-- the hashes of fields, and of one more
pub hashes_more : (hashes more : List ℕ) (fields longer : List Field) (field : Field) (hash : ℕ) (name : List ℕ) → hashes ≡ hashes_of fields
    → longer ≡ fields ++ field ∷ [] → more ≡ hashes ++ hash ∷ [] → field.name ≡ name → hash ≡ hash_of name → more ≡ hashes_of longer
hashes_more hashes more fields longer field hash name were long is named made =
    is
    ∙ ap (λ h. h ++ hash ∷ []) were
    ∙ ap (λ h. hashes_of fields ++ h ∷ []) (made ∙ ap hash_of (sym named))
    ∙ sym (map-append (λ (f : Field). hash_of f.name) fields (field ∷ []))
    ∙ ap hashes_of (sym long)
