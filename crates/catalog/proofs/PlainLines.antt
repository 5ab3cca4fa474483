-- The objects of lines are plain.
use Rattle.std.proofs.Common.{ℕ, suc, List, [], ◌∷◌, Option, Some, None, codes, fold, length, map}
use Rattle.std.specs.Option.{option_map_or}
use Rattle.hex.specs.Hex.{encode_lower}
use Rattle.base64.specs.Engines.{standard}
use Rattle.base64.specs.GeneralPurpose.{encode_of}
use Rattle.header_fields.specs.Fields.{Field, first_value}
use Rattle.mime_decode.specs.Mail.{Mail}
use Rattle.serde_json.specs.Data.{number, unsigned, string, Members, member, no_members, put}
use Rattle.catalog.specs.Rows.{Row}
use Rattle.catalog.specs.Texts.{text_value}
use Rattle.catalog.specs.Fields.{field_names, fields_value, own_fields, with_field}
use Rattle.catalog.specs.Lines.{common_members, message_value, part_value, place_value, places_value}
use Rattle.catalog.specs.declared.entry.Place.{Place}
use Rattle.catalog.proofs.TextLemmas.{of_both}
use Rattle.catalog.proofs.Plain.{AllPlain, ArePlain, IsPlain, array_plain, number_plain, object_plain, put_plain, string_plain}

pub text_plain : (levels : ℕ) (octets : List ℕ) → IsPlain (suc levels) (text_value octets)
text_plain levels octets =
    of_both (IsPlain (suc levels)) octets (string_plain (suc levels) octets)
    (object_plain levels (member (codes "base64") (string (encode_of standard octets)) no_members) (string_plain levels (encode_of standard octets), tt))

with_plain : (levels : ℕ) (name : List ℕ) (ms : Members) (value : Option (List ℕ)) → ArePlain (suc levels) ms
    → ArePlain (suc levels) (option_map_or (λ v. put name (text_value v) ms) value ms)
with_plain levels name ms None p = p
with_plain levels name ms (Some v) p = put_plain (suc levels) name (text_value v) ms (text_plain levels v) p

named_plain : (levels : ℕ) (fields : List Field) (names : List (List ℕ)) (ms : Members) → ArePlain (suc levels) ms
    → ArePlain (suc levels) (fold (with_field fields) ms names)
named_plain levels fields [] ms p = p
named_plain levels fields (name ∷ names) ms p =
    named_plain levels fields names (with_field fields ms name) (with_plain levels name ms (first_value name fields) p)

fields_plain : (levels : ℕ) (fields : List Field) → IsPlain (suc (suc levels)) (fields_value fields)
fields_plain levels fields =
    object_plain (suc levels) (fold (with_field fields) no_members field_names) (named_plain levels fields field_names no_members tt)

place_plain : (levels : ℕ) (place : Place) → IsPlain (suc levels) (place_value place)
place_plain levels place =
    object_plain levels (member (codes "number") (number (unsigned place.number)) (member (codes "part") (number (unsigned place.part)) no_members))
    (number_plain levels place.number, (number_plain levels place.part, tt))

all_places_plain : (levels : ℕ) (places : List Place) → AllPlain (suc levels) (map place_value places)
all_places_plain levels [] = tt
all_places_plain levels (place ∷ places) = (place_plain levels place, all_places_plain levels places)

places_plain : (levels : ℕ) (places : List Place) → IsPlain (suc (suc levels)) (places_value places)
places_plain levels places = array_plain (suc levels) (map place_value places) (all_places_plain levels places)

common_plain : (levels : ℕ) (row : Row) (kind : List ℕ) → ArePlain (suc levels) (common_members row kind)
common_plain levels row kind = (
  text_plain levels row.folder,
  (
    string_plain (suc levels) kind,
    (
      text_plain levels row.media,
      (
        text_plain levels row.name,
        (
          number_plain (suc levels) row.number,
          (
            number_plain (suc levels) row.octets,
            (
              string_plain (suc levels) (encode_lower row.digest),
              tt,
            ),
          ),
        ),
      ),
    ),
  ),
)

pub message_plain : (row : Row) (mail : Mail) (stored : List Place) → IsPlain 3 (message_value row mail stored)
message_plain row mail stored =
    let common = common_members row (codes "message") in
    let fields = put (codes "fields") (fields_value (own_fields mail.parts)) common in
    let places = put (codes "stored") (places_value stored) fields in
    let parts = number (unsigned (length mail.parts)) in
    let with_fields = put_plain 2 (codes "fields") (fields_value (own_fields mail.parts)) common (fields_plain 0 (own_fields mail.parts)) (common_plain 1 row (codes "message")) in
    let with_places = put_plain 2 (codes "stored") (places_value stored) fields (places_plain 0 stored) with_fields in
    object_plain 2 (put (codes "parts") parts places) (put_plain 2 (codes "parts") parts places (number_plain 2 (length mail.parts)) with_places)

pub part_plain : (row : Row) (messages : List Place) → IsPlain 3 (part_value row messages)
part_plain row messages =
    let common = common_members row (codes "part") in
    object_plain 2 (put (codes "of") (places_value messages) common)
    (put_plain 2 (codes "of") (places_value messages) common (places_plain 0 messages) (common_plain 1 row (codes "part")))
