-- The parts in scope, and their headers.
use Rattle.std.proofs.Common.{◌≡◌, ℕ, zero, suc, ◌+◌, ◌<◌, ◌≤◌, List, [], ◌∷◌, length, take, drop, Option, None, Some, refl, sym, ◌∙◌, ap, arith}
use Rattle.std.specs.Prelude.{slice_get, slice_index_or, sum_by, unwrap_or}
use Rattle.std.specs.List.{HoldsAt}
use Rattle.std.proofs.lemmas.List.{length-append, get_or-drop, get_or-map, get_or-take, length-drop, length-map, length-take}
use Rattle.std.proofs.lemmas.List.Folds.{flat_map-map}
use Rattle.std.proofs.lemmas.List.Sums.{sum_by-cons, sum_by-take-le}
use Rattle.std.proofs.lemmas.Option.{get_or_from_slice_get}
use Rattle.octets.specs.Limits.{max_message}
use Rattle.header_fields.specs.Fields.{Field}
use Rattle.header_fields.specs.Extent.{fields_extent}
use Rattle.mime_decode.specs.Mail.{IsMail, Mail, Part}
use Rattle.bytecode_format.specs.declared.selection.Scope.{Scope}
use Rattle.mail_matching.specs.Selection.{current_or_root, first_and_below, parts_in_scope}
use Rattle.mail_matching.specs.Headers.{all_fields, headers_from}
use Rattle.mail_matching.specs.HeaderTests.{fields_in_scope, headers_in_scope}
use Rattle.mail_matching.proofs.Extents.{dropped_within, fields_few, headers_extent}

-- ---- an element that is there

record IsAt {A : Type 0} (xs : List A) (place : ℕ) : Type 0 where
  item : A
  here : slice_get xs place ≡ Some item

is_at : {A : Type 0} (xs : List A) (place : ℕ) → place < length xs → IsAt xs place
is_at [] place lt = absurd (omega (arith, lt))
is_at (x ∷ xs) zero lt = record { item = x; here = refl }
is_at (x ∷ xs) (suc place) lt = let more = is_at xs place (omega (arith, lt)) in record { item = more.item; here = more.here }

-- ---- a part with those below it

pub first_below : (parts : List Part) (place below : ℕ) → place < length parts → HoldsAt (λ (p : Part). below ≡ p.below) parts place
    → take (1 + below) (drop place parts) ≡ first_and_below (drop place parts)
first_below [] place below lt h = absurd (omega (arith, lt))
first_below (part ∷ parts) zero below lt h =
    let one : 1 + below ≡ suc below = omega arith in
    ap (λ n. take n (part ∷ parts)) one ∙ ap (λ n. part ∷ take n parts) (h part)
first_below (part ∷ parts) (suc place) below lt h = first_below parts place below (omega (arith, lt)) h

pub below_within : (mail : Mail) → IsMail mail → (place below : ℕ) → place < length mail.parts → HoldsAt (λ (p : Part). below ≡ p.below) mail.parts place → place + below < length mail.parts
below_within mail is place below lt h =
    let at = is_at mail.parts place lt in
    let same : below ≡ at.item.below = h at.item ∙ ap (λ (p : Part). p.below) (get_or_from_slice_get mail.parts place at.item at.item at.here) in
    omega (arith, same, (is.nests place at.item at.here).within)

pub current_is : (current : Option ℕ) → unwrap_or current 0 ≡ current_or_root current
current_is None = refl
current_is (Some place) = refl

-- ---- headers

pub headers_within : (first number : ℕ) (mail : Mail) → IsMail mail → sum_by fields_extent (headers_from first number mail) ≤ max_message
headers_within first number mail is =
    omega (
      arith,
      headers_extent (take number (drop first mail.parts)) max_message (omega (
        arith,
        sum_by-take-le (λ (p : Part). fields_extent p.fields) (drop first mail.parts) number,
        dropped_within first mail.parts,
        is.fields,
        is.small,
      )),
    )

pub headers_number : (first number : ℕ) (mail : Mail) → first + number ≤ length mail.parts → length (headers_from first number mail) ≡ number
headers_number first number mail within =
    omega (
      arith,
      within,
      length-map (take number (drop first mail.parts)) (λ (p : Part). p.fields),
      length-take number (drop first mail.parts),
      length-drop first mail.parts,
    )

pub header_at : (first number : ℕ) (mail : Mail) → first + number ≤ length mail.parts → (place : ℕ) → place < number → (fields : List Field) → HoldsAt (λ (p : Part). fields ≡ p.fields) mail.parts (first + place)
    → fields ≡ slice_index_or (headers_from first number mail) place []
header_at first number mail within place lt fields h =
    let at = is_at mail.parts (first + place) (omega (arith, within, lt)) in
    let inside : place < length (take number (drop first mail.parts)) = omega (arith, within, lt, length-take number (drop first mail.parts), length-drop first mail.parts) in
    h at.item
    ∙ ap (λ (p : Part). p.fields) (sym (get_or-take number (drop first mail.parts) place at.item lt ∙ get_or-drop first mail.parts place at.item))
    ∙ sym (get_or-map (λ (p : Part). p.fields) (take number (drop first mail.parts)) place at.item [] inside)

-- ---- their fields

pub fields_are : (scope : Scope) (current : Option ℕ) (mail : Mail) → all_fields (headers_in_scope scope current mail) ≡ fields_in_scope scope current mail
fields_are scope current mail = flat_map-map (λ (fields : List Field). fields) (λ (p : Part). p.fields) (parts_in_scope scope current mail)

pub all_fields_few : (headers : List (List Field)) → length (all_fields headers) ≤ sum_by fields_extent headers
all_fields_few [] = omega arith
all_fields_few (fields ∷ headers) = omega (arith, all_fields_few headers, fields_few fields, sum_by-cons fields_extent fields headers, length-append fields (all_fields headers))
