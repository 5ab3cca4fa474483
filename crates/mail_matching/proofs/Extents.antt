-- How many octets texts have, and one more for each.
use Rattle.std.proofs.Common.{max, ◌≡◌, ℕ, ◌+◌, ◌*◌, ◌≤◌, List, [], ◌∷◌, ◌++◌, flat_map, map, length, take, drop, refl, sym, ◌∙◌, ap, arith, mul-add, add-mul, mul-zero, zero-mul, mul_assoc, mul-le-mul_left, mul-le-mul_right, le_trans, add-zero, inl, inr}
use Rattle.std.specs.Prelude.{MatchOption, None, Option, Some, slice_get, sum_by}
use Rattle.std.proofs.Math.Nat.{le-max_left}
use Rattle.std.proofs.lemmas.Nat.{mul-le}
use Rattle.std.proofs.lemmas.List.{append-nil}
use Rattle.std.proofs.lemmas.List.Folds.{flat_map-map}
use Rattle.std.proofs.lemmas.Bool.{cases_Bool}
use Rattle.std.proofs.lemmas.List.Sums.{sum_by-cons, sum_by-append, sum_by-le, sum_by-le-sum_by, sum_by-take-le, sum_by-take-drop}
use Rattle.octets.specs.Limits.{max_message, max_string, max_stack}
use Rattle.header_fields.specs.Fields.{Field}
use Rattle.header_fields.specs.Extent.{fields_extent}
use Rattle.octets.specs.Ascii.{is_word}
use Rattle.mime_decode.specs.Mail.{Mail, Part, IsMail, parts_extent, size_of}
use Rattle.mime_params.specs.MediaValue.{value_named}
use Rattle.mime_params.specs.declared.params.Parameter.{Parameter}
use Rattle.sha2.specs.Sha256.{sha256}
use Rattle.sha2.proofs.Facts256.{length-sha256}
use Rattle.hex.specs.Hex.{lower_digits}
use Rattle.hex.proofs.HexLemmas.{length-encode_with}
use Rattle.mime_decode.specs.Content.{digest_of}
use Rattle.bytecode_format.specs.Questions.{digest_length}
use Rattle.bytecode_format.specs.declared.selection.Scope.{Scope}
use Rattle.bytecode_format.specs.declared.selection.Scope.TheVariants as scopes
use Rattle.bytecode_format.specs.declared.selection.Selector.{Selector}
use Rattle.bytecode_format.specs.declared.selection.Selector.TheVariants.{Value, Main, Sub, ContentType, Param}
use Rattle.mail_matching.specs.Costs.{extent_of, names_cost, values_cost, values_of_a_field}
use Rattle.mail_matching.specs.Headers.{AreWithin, selected_among, selected_in_all, selected_named, values_of_params}
use Rattle.mail_matching.specs.HeaderTests.{fields_in_scope, headers_in_scope}
use Rattle.mail_matching.specs.Selection.{content_type_of, current_or_root, first_and_below, given, main_of, params_of, parts_in_scope, reading_of, selected_of, selected_values, sub_of}
use Rattle.mail_matching.specs.Texts.{AreTexts}
use Rattle.mail_matching.proofs.Lengths.{given_in, reading_in}

-- what comparing the content with the keys costs
abbrev pub body_cost : Part → List (List ℕ) → ℕ
body_cost part keys = values_cost (part.content ∷ []) keys

-- and what comparing its digest does
abbrev pub digest_cost : Part → List (List ℕ) → ℕ
digest_cost part keys = values_cost (digest_of part.content ∷ []) keys

-- ---- sums

sum_scaled : {A : Type 0} (n : ℕ) (f : A → ℕ) (xs : List A) → sum_by (λ x. n * f x) xs ≡ n * sum_by f xs
sum_scaled n f [] = sym (mul-zero n)
sum_scaled n f (x ∷ xs) =
    sum_by-cons (λ y. n * f y) x xs ∙ ap (λ m. n * f x + m) (sum_scaled n f xs) ∙ sym (mul-add n (f x) (sum_by f xs)) ∙ ap (λ m. n * m) (sym (sum_by-cons f x xs))

sum_scaled_right : {A : Type 0} (n : ℕ) (f : A → ℕ) (xs : List A) → sum_by (λ x. f x * n) xs ≡ sum_by f xs * n
sum_scaled_right n f [] = sym (zero-mul n)
sum_scaled_right n f (x ∷ xs) =
    sum_by-cons (λ y. f y * n) x xs ∙ ap (λ m. f x * n + m) (sum_scaled_right n f xs) ∙ sym (add-mul (f x) (sum_by f xs) n) ∙ ap (λ m. m * n) (sym (sum_by-cons f x xs))

sum_same : {A : Type 0} (f g : A → ℕ) (xs : List A) → ((x : A) → f x ≡ g x) → sum_by f xs ≡ sum_by g xs
sum_same f g [] same = refl
sum_same f g (x ∷ xs) same = sum_by-cons f x xs ∙ ap (λ n. n + sum_by f xs) (same x) ∙ ap (λ n. g x + n) (sum_same f g xs same) ∙ sym (sum_by-cons g x xs)

pub values_cost-product : (values keys : List (List ℕ)) → values_cost values keys ≡ extent_of values * extent_of keys
values_cost-product values keys =
    sum_same (λ value. sum_by (λ key. (length value + 1) * (length key + 1)) keys) (λ value. (length value + 1) * extent_of keys) values (λ value. sum_scaled (length value + 1) (λ key. length key + 1) keys)
    ∙ sum_scaled_right (extent_of keys) (λ value. length value + 1) values

-- ---- texts

pub extent-append : (texts more : List (List ℕ)) → extent_of (texts ++ more) ≡ extent_of texts + extent_of more
extent-append texts more = sum_by-append (λ text. length text + 1) texts more

pub extent_one : (text : List ℕ) → extent_of (text ∷ []) ≡ length text + 1
extent_one text = sum_by-cons (λ x. length x + 1) text [] ∙ add-zero (length text + 1)

pub texts_within : (texts : List (List ℕ)) → AreTexts texts → extent_of texts ≤ max_stack * (max_string + 1)
texts_within texts are =
    le_trans (sum_by-le (λ text. length text + 1) (max_string + 1) texts (λ k d lt. omega (arith, are.short k d lt))) (mul-le-mul_right (max_string + 1) are.few)

pub extent_flat_map : {A : Type 0} (f : A → List (List ℕ)) (xs : List A) → extent_of (flat_map f xs) ≡ sum_by (λ x. extent_of (f x)) xs
extent_flat_map f [] = refl
extent_flat_map f (x ∷ xs) =
    extent-append (f x) (flat_map f xs) ∙ ap (λ n. extent_of (f x) + n) (extent_flat_map f xs) ∙ sym (sum_by-cons (λ y. extent_of (f y)) x xs)

-- ---- what is selected of a field

given_within : (limit : ℕ) (o : Option (List ℕ)) → MatchOption o (Unit {0}) (λ v. length v ≤ limit) → extent_of (given o) ≤ limit + 2
given_within limit None h = omega arith
given_within limit (Some v) h = omega (arith, h, extent_one v)

pub params_within : (limit : ℕ) (params : List Parameter) (names : List (List ℕ)) → AreWithin limit params → extent_of (values_of_params params names) ≤ length names * (limit + 2)
params_within limit params names are =
    rw (extent_flat_map (λ name. given (value_named name params)) names)
    (sum_by-le (λ name. extent_of (given (value_named name params))) (limit + 2) names (λ k d lt. given_within limit (value_named _ params) (given_in limit _ params are)))

field_within : (selector : Selector) (params : List (List ℕ)) (field : Field) → extent_of (selected_of selector params field) ≤ values_of_a_field selector params * (length field.value + 2)
field_within Value params field = omega (arith, extent_one field.value)
field_within Main params field = omega (arith, extent_one (main_of (reading_of field)), (reading_in field).main)
field_within Sub params field = omega (arith, extent_one (sub_of (reading_of field)), (reading_in field).sub)
field_within ContentType params field = omega (arith, extent_one (content_type_of (reading_of field)), (reading_in field).content_type)
field_within Param params field =
    le_trans (params_within (length field.value) (params_of (reading_of field)) params (reading_in field).params)
    (mul-le-mul_right (length field.value + 2) (le-max_left (length params) 1))

-- ---- what is selected of the fields of a name

-- what is selected of one field, where it has the name
abbrev pub where_named : Selector → List (List ℕ) → List ℕ → Field → List (List ℕ)
where_named selector params name field = selected_named selector params (field ∷ []) name

pub named_each : (selector : Selector) (params : List (List ℕ)) (name : List ℕ) (fields : List Field) → selected_named selector params fields name ≡ flat_map (where_named selector params name) fields
named_each selector params name [] = refl
named_each selector params name (field ∷ fields) = elim (cases_Bool (is_word field.name name)) [
  | inl named ↦ rw named (ap (λ values. values ++ selected_named selector params fields name) (sym (append-nil (selected_of selector params field))) ∙ ap (λ values. selected_of selector params field ++ [] ++ values) (named_each selector params name fields))
  | inr other ↦ rw other (named_each selector params name fields)
]

where_named_within : (selector : Selector) (params : List (List ℕ)) (name : List ℕ) (field : Field) → extent_of (where_named selector params name field) ≤ values_of_a_field selector params * (length field.value + 2)
where_named_within selector params name field = elim (cases_Bool (is_word field.name name)) [
  | inl named ↦ rw named (rw (append-nil (selected_of selector params field)) (field_within selector params field))
  | inr other ↦ rw other (omega arith)
]

named_within : (selector : Selector) (params : List (List ℕ)) (name : List ℕ) (fields : List Field) → extent_of (selected_named selector params fields name) ≤ values_of_a_field selector params * fields_extent fields
named_within selector params name fields =
    let each = sum_by-le-sum_by (λ field. extent_of (where_named selector params name field)) (λ (field : Field). values_of_a_field selector params * (length field.value + 2)) fields (where_named_within selector params name) in
    omega (
      arith,
      ap extent_of (named_each selector params name fields),
      extent_flat_map (where_named selector params name) fields,
      each,
      sum_scaled (values_of_a_field selector params) (λ (field : Field). length field.value + 2) fields,
    )

-- what is selected in a header
among_within : (selector : Selector) (params names : List (List ℕ)) (fields : List Field) → extent_of (selected_among selector params names fields) ≤ length names * (values_of_a_field selector params * fields_extent fields)
among_within selector params names fields =
    rw (extent_flat_map (selected_named selector params fields) names)
    (sum_by-le (λ name. extent_of (selected_named selector params fields name)) (values_of_a_field selector params * fields_extent fields) names (λ k d lt. named_within selector params _ fields))

-- what is selected in some headers
pub all_within : (selector : Selector) (params names : List (List ℕ)) (headers : List (List Field)) → extent_of (selected_in_all selector params names headers) ≤ length names * values_of_a_field selector params * sum_by fields_extent headers
all_within selector params names headers =
    let factor = length names * values_of_a_field selector params in
    let each = sum_by-le-sum_by (λ fields. extent_of (selected_among selector params names fields)) (λ (fields : List Field). factor * fields_extent fields) headers (λ fields. omega (arith, among_within selector params names fields, mul_assoc (length names) (values_of_a_field selector params) (fields_extent fields))) in
    omega (arith, extent_flat_map (selected_among selector params names) headers, each, sum_scaled factor fields_extent headers)

-- ---- the parts in scope

first_within : (parts : List Part) → parts_extent (first_and_below parts) ≤ parts_extent parts
first_within [] = omega arith
first_within (part ∷ parts) =
    omega (arith, sum_by-cons (λ (p : Part). fields_extent p.fields) part parts, sum_by-cons (λ (p : Part). fields_extent p.fields) part (take part.below parts), sum_by-take-le (λ (p : Part). fields_extent p.fields) parts part.below)

pub dropped_within : (place : ℕ) (parts : List Part) → parts_extent (drop place parts) ≤ parts_extent parts
dropped_within place parts = omega (arith, sum_by-take-drop (λ (p : Part). fields_extent p.fields) parts place)

scope_within : (scope : Scope) (current : Option ℕ) (mail : Mail) → parts_extent (parts_in_scope scope current mail) ≤ parts_extent mail.parts
scope_within scopes.Message current mail = sum_by-take-le (λ (p : Part). fields_extent p.fields) mail.parts 1
scope_within scopes.Part current mail =
    le_trans (sum_by-take-le (λ (p : Part). fields_extent p.fields) (drop (current_or_root current) mail.parts) 1) (dropped_within (current_or_root current) mail.parts)
scope_within scopes.PartAndBelow current mail = le_trans (first_within (drop (current_or_root current) mail.parts)) (dropped_within (current_or_root current) mail.parts)

extent_of_parts : (parts : List Part) → fields_extent (flat_map (λ (p : Part). p.fields) parts) ≡ parts_extent parts
extent_of_parts [] = refl
extent_of_parts (part ∷ parts) =
    sum_by-append (λ (f : Field). length f.value + 2) part.fields (flat_map (λ (p : Part). p.fields) parts)
    ∙ ap (λ n. fields_extent part.fields + n) (extent_of_parts parts) ∙ sym (sum_by-cons (λ (p : Part). fields_extent p.fields) part parts)

-- the fields in scope take no more octets than the message has
pub fields_within : (scope : Scope) (current : Option ℕ) (mail : Mail) → IsMail mail → fields_extent (fields_in_scope scope current mail) ≤ size_of mail
fields_within scope current mail is = omega (arith, extent_of_parts (parts_in_scope scope current mail), scope_within scope current mail, is.fields)

pub fields_few : (fields : List Field) → length fields ≤ fields_extent fields
fields_few [] = omega arith
fields_few (field ∷ fields) = omega (arith, fields_few fields, sum_by-cons (λ (f : Field). length f.value + 2) field fields)

pub names_cost-within : (mail : Mail) → IsMail mail → (scope : Scope) (current : Option ℕ) (names : List (List ℕ)) → names_cost (fields_in_scope scope current mail) names ≤ (size_of mail + 1) * extent_of names
names_cost-within mail is scope current names =
    mul-le-mul_right (extent_of names) (omega (arith, fields_within scope current mail is, fields_few (fields_in_scope scope current mail)))

-- ---- the values selected

sum_of_headers : (parts : List Part) → sum_by fields_extent (map (λ (p : Part). p.fields) parts) ≡ parts_extent parts
sum_of_headers [] = refl
sum_of_headers (part ∷ parts) =
    sum_by-cons fields_extent part.fields (map (λ (p : Part). p.fields) parts)
    ∙ ap (λ n. fields_extent part.fields + n) (sum_of_headers parts)
    ∙ sym (sum_by-cons (λ (p : Part). fields_extent p.fields) part parts)

pub headers_extent : (parts : List Part) (limit : ℕ) → parts_extent parts ≤ limit → sum_by fields_extent (map (λ (p : Part). p.fields) parts) ≤ limit
headers_extent parts limit le = omega (arith, sum_of_headers parts, le)

pub selected_are_in_all : (scope : Scope) (current : Option ℕ) (selector : Selector) (params names : List (List ℕ)) (mail : Mail)
    → selected_in_all selector params names (headers_in_scope scope current mail) ≡ selected_values scope current selector params names mail
selected_are_in_all scope current selector params names mail = flat_map-map (selected_among selector params names) (λ (p : Part). p.fields) (parts_in_scope scope current mail)

selected_within : (mail : Mail) → IsMail mail → (scope : Scope) (current : Option ℕ) (selector : Selector) (params names : List (List ℕ)) → extent_of (selected_values scope current selector params names mail) ≤ length names * values_of_a_field selector params * size_of mail
selected_within mail is scope current selector params names =
    let headers = headers_extent (parts_in_scope scope current mail) (size_of mail) (le_trans (scope_within scope current mail) is.fields) in
    omega (
      arith,
      ap extent_of (selected_are_in_all scope current selector params names mail),
      le_trans (all_within selector params names (headers_in_scope scope current mail)) (mul-le-mul_left (length names * values_of_a_field selector params) headers),
    )

pub values_cost-within : (mail : Mail) → IsMail mail → (scope : Scope) (current : Option ℕ) (selector : Selector) (params names keys : List (List ℕ)) → values_cost (selected_values scope current selector params names mail) keys ≤ length names * values_of_a_field selector params * size_of mail * extent_of keys
values_cost-within mail is scope current selector params names keys =
    let values = selected_values scope current selector params names mail in
    rw (values_cost-product values keys) (mul-le-mul_right (extent_of keys) (selected_within mail is scope current selector params names))

-- ---- one value

pub value_cost : (value : List ℕ) (keys : List (List ℕ)) → values_cost (value ∷ []) keys ≡ (length value + 1) * extent_of keys
value_cost value keys = values_cost-product (value ∷ []) keys ∙ ap (λ n. n * extent_of keys) (extent_one value)

pub body_cost-within : (mail : Mail) → IsMail mail → (place : ℕ) (part : Part) → slice_get mail.parts place ≡ Some part → (keys : List (List ℕ)) → body_cost part keys ≤ (size_of mail + 1) * extent_of keys
body_cost-within mail is place part at keys =
    let within = is.within place part at in
    rw (value_cost part.content keys) (mul-le-mul_right (extent_of keys) (omega (arith, within.content, within.body)))

length-digest : (octets : List ℕ) → length (digest_of octets) ≡ digest_length
length-digest octets = omega (arith, length-encode_with lower_digits (sha256 octets), length-sha256 octets)

pub digest_cost-is : (part : Part) (keys : List (List ℕ)) → digest_cost part keys ≡ (digest_length + 1) * extent_of keys
digest_cost-is part keys = value_cost (digest_of part.content) keys ∙ ap (λ n. (n + 1) * extent_of keys) (length-digest part.content)

-- ---- what a test selects is little enough to be counted

pub values_few : (selector : Selector) (params : List (List ℕ)) (most : ℕ) → length params ≤ most → values_of_a_field selector params ≤ max most 1
values_few Param params most le = omega (arith, le)
values_few _ params most le = omega arith

pub all_few : (selector : Selector) (params names : List (List ℕ)) (headers : List (List Field)) → AreTexts params → AreTexts names → sum_by fields_extent headers ≤ max_message
    → extent_of (selected_in_all selector params names headers) ≤ max_stack * max_stack * max_message
all_few selector params names headers are few short =
    let factor = mul-le (length names) (values_of_a_field selector params) max_stack max_stack few.few (omega (arith, values_few selector params max_stack are.few)) in
    le_trans (all_within selector params names headers)
    (mul-le (length names * values_of_a_field selector params) (sum_by fields_extent headers) (max_stack * max_stack) max_message factor short)
