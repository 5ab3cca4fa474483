-- Lines that were written by hand.
use Rattle.std.proofs.Common.{◌≡◌, ◌∷◌, ◌++◌, [], ℕ, List, codes, refl, replicate}
use Rattle.std.specs.Fmt.{digits}
use Rattle.std.specs.Str.{chars, is_utf8}
use Rattle.base64.proofs.OnLiterals.{base64_on_literals}
use Rattle.hex.proofs.OnLiterals.{hex_on_literals}
use Rattle.json.proofs.OnLiterals.{json_on_literals}
use Rattle.mime_decode.specs.Mail.{mail_of}
use Rattle.mime_tree.specs.PartTree.{parts_of}
use Rattle.serde_json.specs.Written.{compact_text}
use Rattle.catalog.specs.Rows.{Row}
use Rattle.catalog.specs.Texts.{text_value}
use Rattle.catalog.specs.Stored.{stored_in}
use Rattle.catalog.specs.Lines.{message_line, part_line}
use Rattle.catalog.specs.declared.entry.PartEntry.{PartEntry}

-- any 32 octets
abbrev digest : List ℕ
digest = replicate 32 171

-- a name in Latin-1, in which 233 is no UTF-8
abbrev part : Row
part =
    record {
      number = 2;
      folder = codes "Documents";
      name = codes "caf" ++ 233 ∷ codes ".pdf";
      media = codes "application/pdf";
      octets = 9016;
      digest = digest;
    }

of_a_part : part_line part (record { number = 1; part = 4 } ∷ [])
    ≡ codes "{\"folder\":\"Documents\",\"kind\":\"part\",\"media\":\"application/pdf\",\"name\":{\"base64\":\"Y2Fm6S5wZGY=\"},\"number\":2,\"octets\":9016,\"of\":[{\"number\":1,\"part\":4}],\"sha256\":\"abababababababababababababababababababababababababababababababab\"}"
unfolding digits chars is_utf8 base64_on_literals hex_on_literals json_on_literals
of_a_part = refl

abbrev message : Row
message = record { number = 1; folder = codes "INBOX"; name = []; media = codes "message/rfc822"; octets = 36; digest = digest }

-- 36 octets with two fields Subject, of which the first is folded
abbrev octets : List ℕ
octets = codes "To: b@c" ++ 10 ∷ codes "subject: x" ++ 10 ∷ codes " y" ++ 10 ∷ codes "Subject: z" ++ 10 ∷ 10 ∷ codes "hi"

of_a_message : message_line message (mail_of octets) []
    ≡ codes "{\"fields\":{\"Subject\":\"x y\",\"To\":\"b@c\"},\"folder\":\"INBOX\",\"kind\":\"message\",\"media\":\"message/rfc822\",\"name\":\"\",\"number\":1,\"octets\":36,\"parts\":1,\"sha256\":\"abababababababababababababababababababababababababababababababab\",\"stored\":[]}"
unfolding digits chars is_utf8 base64_on_literals hex_on_literals json_on_literals mail_of parts_of
of_a_message = refl

-- a quotation mark, a backslash, a line feed, a null and the octets of a euro sign
escaped : compact_text (text_value (34 ∷ 92 ∷ 10 ∷ 0 ∷ 226 ∷ 130 ∷ 172 ∷ [])) ≡ codes "\"\\\"\\\\\\n\\u0000" ++ 226 ∷ 130 ∷ 172 ∷ 34 ∷ []
unfolding chars is_utf8 json_on_literals
escaped = refl

-- the octets that a surrogate would have, which are no UTF-8
surrogate : compact_text (text_value (237 ∷ 160 ∷ 128 ∷ [])) ≡ codes "{\"base64\":\"7aCA\"}"
unfolding chars is_utf8 base64_on_literals json_on_literals
surrogate = refl

abbrev entry : ℕ → ℕ → PartEntry
entry number octet = record { number = number; digest = octet ∷ [] }

-- the content of parts 0 and 2 is one, and so entry 5 is at part 0
first_places : stored_in ((1 ∷ []) ∷ (2 ∷ []) ∷ (1 ∷ []) ∷ []) (entry 5 1 ∷ entry 6 3 ∷ entry 7 2 ∷ [])
    ≡ record { number = 5; part = 0 } ∷ record { number = 7; part = 1 } ∷ []
first_places = refl
