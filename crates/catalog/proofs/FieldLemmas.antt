-- What the object of fields has under a name.
use Rattle.std.proofs.Common.{◌≡◌, ◌<◌, ℕ, List, [], ◌∷◌, ◌++◌, false, true≢false, Option, Some, None, HoldsAt, bytes_eq, codes, fold, length, option_map, refl, sym, ap, ◌∙◌, arith}
use Rattle.std.specs.List.{AllByRecursion, list_any}
use Rattle.std.specs.Option.{option_map_or}
use Rattle.std.proofs.lemmas.Bool.{or_parts}
use Rattle.std.proofs.lemmas.List.Sums.{fold-append}
use Rattle.std.proofs.lemmas.Slice.Eq.{bytes_eq-Decides}
use Rattle.header_fields.specs.Fields.{Field, first_value}
use Rattle.mime_decode.specs.Mail.{Part}
use Rattle.serde_json.specs.Data.{Members, no_members, put}
use Rattle.serde_json.specs.Find.{get, get_member}
use Rattle.serde_json.proofs.Views.{get_member-put, get_member-put_other}
use Rattle.catalog.specs.Texts.{text_value}
use Rattle.catalog.specs.Fields.{field_names, fields_value, own_fields, with_field}

-- the fields of the first part
pub of_first_part : (fields : List Field) (parts : List Part) → 0 < length parts → HoldsAt (λ (p : Part). fields ≡ p.fields) parts 0 → fields ≡ own_fields parts
of_first_part fields [] some h = absurd (omega (arith, some))
of_first_part fields (part ∷ parts) some h = h part

-- ---- a member that was put

is_other : (q n : List ℕ) → bytes_eq q n ≡ false → q ≡ n → ⊥
is_other q n apart same = true≢false (sym ((bytes_eq-Decides q n).1 same) ∙ apart)

with_none : (q : List ℕ) (ms : Members) (value : Option (List ℕ)) → get_member q ms ≡ None
    → get_member q (option_map_or (λ v. put q (text_value v) ms) value ms) ≡ option_map text_value value
with_none q ms None absent = absent
with_none q ms (Some v) absent = get_member-put q (text_value v) ms

with_other : (q n : List ℕ) (ms : Members) (value : Option (List ℕ)) → (q ≡ n → ⊥)
    → get_member q (option_map_or (λ v. put n (text_value v) ms) value ms) ≡ get_member q ms
with_other q n ms None other = refl
with_other q n ms (Some v) other = get_member-put_other q n (text_value v) ms other

-- names that aren't this one leave what is under it
pub passed : (fields : List Field) (q : List ℕ) (names : List (List ℕ)) (ms : Members) → list_any (λ n. bytes_eq q n) names ≡ false
    → get_member q (fold (with_field fields) ms names) ≡ get_member q ms
passed fields q [] ms apart = refl
passed fields q (n ∷ names) ms apart =
    let parts = or_parts (bytes_eq q n) (list_any (λ m. bytes_eq q m) names) apart in
    passed fields q names (with_field fields ms n) parts.1 ∙ with_other q n ms (first_value n fields) (is_other q n parts.0)

-- a name that comes once among the names
found : (fields : List Field) (q : List ℕ) (before after : List (List ℕ)) → list_any (λ n. bytes_eq q n) before ≡ false → list_any (λ n. bytes_eq q n) after ≡ false
    → get_member q (fold (with_field fields) no_members (before ++ q ∷ after)) ≡ option_map text_value (first_value q fields)
found fields q before after apart later =
    ap (get_member q) (fold-append (with_field fields) no_members before (q ∷ after))
    ∙ passed fields q after (with_field fields (fold (with_field fields) no_members before) q) later
    ∙ with_none q (fold (with_field fields) no_members before) (first_value q fields) (passed fields q before no_members apart)

abbrev names_before_cc : List (List ℕ)
names_before_cc = codes "From" ∷ codes "To" ∷ []

abbrev names_before_date : List (List ℕ)
names_before_date = codes "From" ∷ codes "To" ∷ codes "Cc" ∷ codes "Subject" ∷ []

abbrev names_after_date : List (List ℕ)
names_after_date = codes "Message-ID" ∷ codes "In-Reply-To" ∷ codes "References" ∷ []

pub each_found : (fields : List Field) → AllByRecursion (λ name. get name (fields_value fields) ≡ option_map text_value (first_value name fields)) field_names
each_found fields = (
  found fields (codes "From") [] (codes "To" ∷ codes "Cc" ∷ codes "Subject" ∷ codes "Date" ∷ names_after_date) refl refl,
  (
    found fields (codes "To") (codes "From" ∷ []) (codes "Cc" ∷ codes "Subject" ∷ codes "Date" ∷ names_after_date) refl refl,
    (
      found fields (codes "Cc") names_before_cc (codes "Subject" ∷ codes "Date" ∷ names_after_date) refl refl,
      (
        found fields (codes "Subject") (names_before_cc ++ codes "Cc" ∷ []) (codes "Date" ∷ names_after_date) refl refl,
        (
          found fields (codes "Date") names_before_date names_after_date refl refl,
          (
            found fields (codes "Message-ID") (names_before_date ++ codes "Date" ∷ []) (codes "In-Reply-To" ∷ codes "References" ∷ []) refl refl,
            (
              found fields (codes "In-Reply-To") (names_before_date ++ codes "Date" ∷ codes "Message-ID" ∷ []) (codes "References" ∷ []) refl refl,
              (
                found fields (codes "References") (names_before_date ++ codes "Date" ∷ codes "Message-ID" ∷ codes "In-Reply-To" ∷ []) [] refl refl,
                tt,
              ),
            ),
          ),
        ),
      ),
    ),
  ),
)

pub none_other : (fields : List Field) (name : List ℕ) → list_any (λ n. bytes_eq name n) field_names ≡ false → get name (fields_value fields) ≡ None
none_other fields name apart = passed fields name field_names no_members apart
